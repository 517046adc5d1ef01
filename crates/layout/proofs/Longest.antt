-- The length of the longest object: found one length at a time, and at least each of them.
use mathlib.Core.Path.{◌≡◌, ◌∙◌}
use mathlib.Core.List.{List}
use Prim.Native.Nat.{ℕ, zero, suc, ◌+◌, ◌≤◌, ◌<◌, max}
use native.Mathlib.Omega.{arith}
use native.Mathlib.Numerals.{add-one}
use native.Mathlib.Nat.{zero-add}
use mathlib.Core.Logic.{inl, inr}
use lib.ListN.{get_or}
use Rattle.rules.specs.Words.{word_values}
use Rattle.rules.proofs.Tables.{trio}
use Rattle.layout.specs.Layout.{longest_by}

module _ (lens : List ℕ) where
  -- one length more at the end
  longest_more : (i n : ℕ) → longest_by lens i (suc n) ≡ max (longest_by lens i n) (get_or lens (i + n) 0)
  unfolding longest_by
  longest_more i zero = let e : i + 0 ≡ i = omega arith in rw e (omega arith)
  longest_more i (suc n) = let e : i + suc n ≡ suc i + n = omega arith in rw e (omega (arith, longest_more (suc i) n))

  -- the longest of the first i lengths is found
  pub record Longest (i found : ℕ) : Type 0 where
    pub is : found ≡ longest_by lens 0 i
    pub few : found < word_values

  pub longest_start : Longest 0 0
  unfolding longest_by
  longest_start = record { is = omega arith; few = omega arith }

  pub longest_next : {i found more : ℕ} → Longest i found → get_or lens i 0 < word_values → more ≡ max found (get_or lens i 0) → Longest (i + 1) more
  longest_next {i} s l e = record { is = e ∙ rw (add-one i, longest_more 0 i, zero-add i, s.is); few = omega (arith, s.few) }

  -- no length is greater
  pub longest_each : (n i j : ℕ) → i ≤ j → j < i + n → get_or lens j 0 ≤ longest_by lens i n
  unfolding longest_by
  longest_each zero i j l m = absurd (omega arith)
  longest_each (suc n) i j l m = elim (trio j i) [
    | inl q ↦ absurd (omega arith)
    | inr (inl q) ↦ rw q (omega arith)
    | inr (inr q) ↦ omega (arith, longest_each n (suc i) j (omega arith) (omega arith))
  ]
