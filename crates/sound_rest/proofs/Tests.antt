-- Tests of every number of a span, the same or two at once.
use mathlib.Core.Path.{◌≡◌, refl, ap}
use mathlib.Core.Bool.{Bool, true, false, ◌&&◌}
use Prim.Native.Nat.{ℕ, zero, suc, ◌+◌, ◌≤◌, ◌<◌}
use native.Mathlib.Omega.{arith}
use Rattle.rules.specs.Regions.{every}

-- the same tests have the same outcome
pub every_same : (f g : ℕ → Bool) (k n : ℕ) → ((i : ℕ) → k ≤ i → i < k + n → f i ≡ g i) → every f k n ≡ every g k n
unfolding every
every_same f g k zero h = refl
every_same f g k (suc n) h =
    rw (h k (omega arith) (omega arith)) (ap (λ (b : Bool). g k && b) (every_same f g (suc k) n (λ i a b. h i (omega arith) (omega arith))))

-- two tests of every number are one
pub every_both : (f g : ℕ → Bool) (k n : ℕ) → every (λ i. f i && g i) k n ≡ every f k n && every g k n
unfolding every
every_both f g k zero = refl
every_both f g k (suc n) = rw (every_both f g (suc k) n) (mixed (f k) (g k) (every f (suc k) n) (every g (suc k) n))
  where
    mixed : (a b c d : Bool) → ((a && b) && (c && d)) ≡ ((a && c) && (b && d))
    mixed false b c d = refl
    mixed true false false d = refl
    mixed true false true d = refl
    mixed true true c d = refl
