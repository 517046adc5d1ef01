-- The search of the code: from the lower class that it goes on with the boundary is the same, and where it finds none it has come to its end.
use mathlib.Core.Path.{◌≡◌, refl, sym}
use mathlib.Core.Bool.{true, false, cond, not, ◌&&◌}
use mathlib.Core.List.{List}
use Prim.Native.Nat.{ℕ, zero, suc, ◌≤◌}
use native.Mathlib.Omega.{arith}
use lib.Dec.{ltb}
use borrow.Author.Tests.{ltb-true}
use Rattle.rules.specs.Regions.{col, every, up_from}
use Rattle.rules.specs.Boundary.{reaches, clean, boundary_of}
use Rattle.rules.proofs.Lists.{and_true}
use Rattle.rules.proofs.Boundary.{boundary_stop, boundary_jump}
use Rattle.leaves.specs.Reached.{reached_from, lower_reached}

module _ (useds lowests : List ℕ) where
  -- the boundary is the same from the class that the code goes on with
  reached_same : (k m j : ℕ) → k ≤ j → m ≤ up_from j → boundary_of useds lowests (reached_from useds lowests k j m) ≡ boundary_of useds lowests k
  unfolding reached_from
  reached_same k zero j h l = refl
  reached_same k (suc m) j h l =
      (elim (reaches useds lowests k j) as
      (λ t. reaches useds lowests k j ≡ t → boundary_of useds lowests
      (cond t (col lowests j) (reached_from useds lowests k (suc j) m)) ≡ boundary_of useds lowests k) [
        | true ↦ λ e. sym (boundary_jump useds lowests k j h (omega arith) e)
        | false ↦ λ e. reached_same k m (suc j) (omega arith) (omega arith)
      ]) refl

  -- where the code finds no lower class, no buffer reaches below
  reached_none : (k m j : ℕ) → k ≤ reached_from useds lowests k j m → every (λ i. not (reaches useds lowests k i)) j m ≡ true
  unfolding reached_from every
  reached_none k zero j h = refl
  reached_none k (suc m) j h =
      (elim (reaches useds lowests k j) as
      (λ t. reaches useds lowests k j ≡ t → k ≤ cond t (col lowests j) (reached_from useds lowests k (suc j) m) →
      (not t && every (λ i. not (reaches useds lowests k i)) (suc j) m) ≡ true) [
        | true ↦ λ e n. absurd (omega (arith, ltb-true (col lowests j) k (and_true (ltb 0 (col useds j)) (ltb (col lowests j) k) e).1))
        | false ↦ λ e n. reached_none k m (suc j) n
      ]) refl h

  -- the code begins again from the lower class
  pub boundary_again : (k : ℕ) → boundary_of useds lowests (lower_reached useds lowests k) ≡ boundary_of useds lowests k
  boundary_again k = reached_same k (up_from k) k (omega arith) (omega arith)

  -- or it has come to its end
  pub boundary_end : (k : ℕ) → 1 ≤ k → k ≤ lower_reached useds lowests k → boundary_of useds lowests k ≡ k
  unfolding clean
  boundary_end k l h = boundary_stop useds lowests k l (reached_none k (up_from k) k h)
