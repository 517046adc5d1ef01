-- The classes of lengths (law 1). The search for a class stops at the first power of two above the length: every lower power is at most the length.
-- From these two facts each length has exactly one class, and the class rises with the length.
use mathlib.Core.Path.{◌≡◌, refl}
use mathlib.Core.Logic.{inl, inr}
use mathlib.Core.Bool.{true, false, cond}
use Prim.Native.Nat.{ℕ, zero, suc, ◌+◌, ◌-◌, ◌^◌, ◌≤◌, ◌<◌}
use native.Mathlib.Omega.{arith}
use native.Mathlib.Nat.{add-zero, eq-or-lt_of_le, pow-le-pow_right}
use lib.Dec.{ltb}
use borrow.Author.Tests.{ltb-true, ltb-false}
use Rattle.rules.specs.House.{classes, longest}
use Rattle.rules.specs.Classes.{class_from, class_of}
use Rattle.rules.proofs.Tables.{trio}

from_low : (n i m k : ℕ) → i ≤ k → k < class_from n i m → 2 ^ k ≤ n
unfolding class_from
from_low n i zero k a b = absurd (omega arith)
from_low n i (suc m) k a b = (elim (ltb n (2 ^ i)) as (λ t. ltb n (2 ^ i) ≡ t → k < cond t i (class_from n (suc i) m) → 2 ^ k ≤ n) [
  | true ↦ λ e c. absurd (omega arith)
  | false ↦ λ e c. elim (eq-or-lt_of_le a) [
    | inl s ↦ rw (← s) (ltb-false n (2 ^ i) e)
    | inr l ↦ from_low n (suc i) m k l c
  ]
]) refl b

from_high : (n i m : ℕ) → n < 2 ^ (i + m) → n < 2 ^ class_from n i m
unfolding class_from
from_high n i zero l = rw add-zero at l
from_high n i (suc m) l = (elim (ltb n (2 ^ i)) as (λ t. ltb n (2 ^ i) ≡ t → n < 2 ^ cond t i (class_from n (suc i) m)) [
  | true ↦ λ e. ltb-true n (2 ^ i) e
  | false ↦ λ e. let s : i + suc m ≡ suc i + m = omega arith in from_high n (suc i) m (rw s at l)
]) refl

from_most : (n i m : ℕ) → class_from n i m ≤ i + m
unfolding class_from
from_most n i zero = omega arith
from_most n i (suc m) = elim (ltb n (2 ^ i)) as (λ t. cond t i (class_from n (suc i) m) ≤ i + suc m) [
  | true ↦ omega arith
  | false ↦ omega (arith, from_most n (suc i) m)
]

-- no class is beyond one past the last
pub class_few : (n : ℕ) → class_of n ≤ suc classes
unfolding class_of
class_few n = from_most n 0 (suc classes)

-- a length reaches every power of two below its class
class_low : (n k : ℕ) → k < class_of n → 2 ^ k ≤ n
unfolding class_of
class_low n k l = from_low n 0 (suc classes) k (omega arith) l

-- and none from its class on
class_high : (n : ℕ) → n ≤ longest → n < 2 ^ class_of n
unfolding class_of
class_high n l = from_high n 0 (suc classes) (omega arith)

-- every length has a class from 1 to the last
pub class_bounds : (n : ℕ) → 1 ≤ n → n ≤ longest → (1 ≤ class_of n) × (class_of n ≤ classes)
class_bounds n a b = (some (class_of n) (class_high n b), most)
  where
    some : (c : ℕ) → n < 2 ^ c → 1 ≤ c
    some zero h = absurd (omega arith)
    some (suc c) h = omega arith

    most : class_of n ≤ classes
    most = elim (trio classes (class_of n)) [
      | inl l ↦ absurd (omega (arith, class_low n classes l))
      | inr h ↦ elim h [ inl e ↦ omega arith | inr l ↦ omega arith ]
    ]

-- a length lies between the powers of two of its class
pub class_holds : (n : ℕ) → 1 ≤ n → n ≤ longest → (2 ^ (class_of n - 1) ≤ n) × (n < 2 ^ class_of n)
class_holds n a b = (class_low n (class_of n - 1) (omega (arith, class_bounds n a b)), class_high n b)

-- and between those of no other class
pub class_only : (n i : ℕ) → n ≤ longest → 2 ^ (i - 1) ≤ n → n < 2 ^ i → i ≡ class_of n
class_only n i b low high = elim (trio i (class_of n)) [
  | inl l ↦ absurd (omega (arith, class_low n i l))
  | inr h ↦ elim h [
    | inl e ↦ e
    | inr l ↦ absurd (omega (arith, class_high n b, pow-le-pow_right {n = 2} (omega arith) {i = class_of n} {j = i - 1} (omega arith)))
  ]
]

-- a longer length is of no lower class
pub class_monotone : (m n : ℕ) → m ≤ n → n ≤ longest → class_of m ≤ class_of n
class_monotone m n a b = elim (trio (class_of n) (class_of m)) [
  | inl l ↦ absurd (omega (arith, class_low m (class_of n) l, class_high n b))
  | inr h ↦ elim h [ inl e ↦ omega arith | inr l ↦ omega arith ]
]
