-- The search by halves: what is left between the two bounds has the answer of the whole, and the fuel is enough to close them.
use Prim.Native.Nat.{ℕ, zero, suc, ◌+◌, ◌-◌, ◌/◌, ◌≤◌, ◌<◌}
use mathlib.Core.Path.{◌≡◌, refl, sym, ◌∙◌}
use mathlib.Core.Bool.{cond}
use mathlib.Core.List.{List}
use native.Mathlib.Omega.{arith}
use Rattle.std.specs.Prelude.{Ok, Err}
use borrow.Author.Tests.{lt-ltb, le-ltb, eq-eqb, ne_eqb}
use lib.Dec.{ltb, eqb}
use Rattle.rules.specs.Calls.{map_size}
use Rattle.rules.specs.declared.Answer.TheVariants.{NotHeld}
use Rattle.mapform.specs.Entries.{word_at, entry_at}
use Rattle.maps.specs.Finding.{held_as, bisect}

-- what is left between lo and hi, with fuel that is enough
pub record Halving (s : List ℕ) (x n lo hi : ℕ) : Type 0 where
  pub lo_le : lo ≤ hi
  pub hi_le : hi ≤ n
  pub fuel : ℕ
  pub enough : hi ≤ lo + fuel
  pub rest : bisect fuel s x lo hi ≡ bisect n s x 0 n

pub half_start : (s : List ℕ) (x n : ℕ) → Halving s x n 0 n
half_start s x n = record { lo_le = omega arith; hi_le = omega arith; fuel = n; enough = omega arith; rest = refl }

module _ (s : List ℕ) (x n lo hi : ℕ) (h : lo < hi) (mid : ℕ) (em : mid ≡ lo + (hi - lo) / 2) (y : ℕ) (ey : y ≡ word_at s (map_size mid)) where
  pub half_step : (f : ℕ)
      → bisect (suc f) s x lo hi ≡ cond (eqb y x) (held_as (entry_at s (map_size mid))) (bisect f s x (cond (ltb y x) (mid + 1) lo) (cond (ltb y x) hi mid))
  unfolding bisect
  half_step f = rw (lt-ltb lo hi h, ey, em)

  here : (f : ℕ) → hi ≤ lo + f → bisect f s x lo hi ≡ bisect n s x 0 n → y ≡ x → held_as (entry_at s (map_size mid)) ≡ bisect n s x 0 n
  here zero k e q = absurd (omega arith)
  here (suc f) k e q = sym (half_step f ∙ rw (eq-eqb y x q)) ∙ e

  upper : (f : ℕ) → hi ≤ n → hi ≤ lo + f → bisect f s x lo hi ≡ bisect n s x 0 n → (y ≡ x → ⊥) → y < x → Halving s x n (mid + 1) hi
  upper zero c k e ne q = absurd (omega arith)
  upper (suc f) c k e ne q = record {
    lo_le = omega arith;
    hi_le = c;
    fuel = f;
    enough = omega arith;
    rest = sym
        (half_step f ∙ rw (ne_eqb y x ne, lt-ltb y x q)) ∙ e;
  }

  lower : (f : ℕ) → hi ≤ n → hi ≤ lo + f → bisect f s x lo hi ≡ bisect n s x 0 n → (y ≡ x → ⊥) → x ≤ y → Halving s x n lo mid
  lower zero c k e ne q = absurd (omega arith)
  lower (suc f) c k e ne q = record {
    lo_le = omega arith;
    hi_le = omega arith;
    fuel = f;
    enough = omega arith;
    rest = sym
        (half_step f ∙ rw (ne_eqb y x ne, le-ltb y x q)) ∙ e;
  }

  module _ (b : Halving s x n lo hi) where
    -- the middle name is the one asked for
    pub half_found : (p l : ℕ) → y ≡ x → p ≡ word_at s (map_size mid + 2) → l ≡ word_at s (map_size mid + 4)
        → Ok (record { at = record { 0 = p }; len = l }) ≡ bisect n s x 0 n
    half_found p l q ep el = rw (ep, el) (here b.fuel b.enough b.rest q)

    -- it is below, or above
    pub half_upper : (y ≡ x → ⊥) → y < x → Halving s x n (mid + 1) hi
    half_upper ne q = upper b.fuel b.hi_le b.enough b.rest ne q

    pub half_lower : (y ≡ x → ⊥) → x ≤ y → Halving s x n lo mid
    half_lower ne q = lower b.fuel b.hi_le b.enough b.rest ne q

-- nothing is left
pub half_none : {s : List ℕ} {x n lo hi : ℕ} → Halving s x n lo hi → hi ≤ lo → Err NotHeld ≡ bisect n s x 0 n
unfolding bisect
half_none {s} {x} {n} {lo} {hi} b h = sym (none b.fuel) ∙ b.rest
  where
    none : (f : ℕ) → bisect f s x lo hi ≡ Err NotHeld
    none zero = refl
    none (suc f) = rw (le-ltb lo hi h)
