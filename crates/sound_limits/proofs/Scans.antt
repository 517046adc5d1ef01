-- Scans upwards that stop at the first number that fails a test: what the loops of the checks keep is that what is left of the scan
-- comes to the whole of it.
use mathlib.Core.Path.{◌≡◌}
use mathlib.Core.Bool.{Bool, true, false}
use Prim.Native.Nat.{ℕ, suc, ◌+◌, ◌-◌, ◌≤◌, ◌<◌}
use native.Mathlib.Numerals.{add-one}
use native.Mathlib.Omega.{arith}
use Rattle.rules.specs.Regions.{every}

-- what is left of the scan below top comes to the goal
pub record Scanning (f : ℕ → Bool) (top : ℕ) (goal : Bool) (i : ℕ) : Type 0 where
  pub left : every f i (top - i) ≡ goal

module _ {f : ℕ → Bool} {top : ℕ} {goal : Bool} {i : ℕ} (g : Scanning f top goal i) where
  pub stopped : i < top → f i ≡ false → false ≡ goal
  unfolding every
  stopped h e = let n : top - i ≡ suc (top - suc i) = omega arith in rw (n, e) at g.left

  pub passed : i < top → f i ≡ true → Scanning f top goal (i + 1)
  unfolding every
  passed h e = record { left = (let n : top - i ≡ suc (top - suc i) = omega arith in rw (add-one i) (rw (n, e) at g.left)) }

  pub ended : top ≤ i → true ≡ goal
  unfolding every
  ended h = let n : top - i ≡ 0 = omega arith in rw n at g.left
