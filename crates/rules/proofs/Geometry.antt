-- Regions side by side: each starts where the one before it ends, and a region's start is told by the sizes below it alone.
use mathlib.Core.Path.{◌≡◌, ap}
use mathlib.Core.Logic.{inl, inr}
use mathlib.Core.List.{List}
use Prim.Native.Nat.{ℕ, zero, suc, ◌+◌, ◌-◌, ◌≤◌, ◌<◌}
use native.Mathlib.Omega.{arith}
use native.Mathlib.Nat.{eq-or-lt_of_le, add-zero}
use Rattle.rules.specs.House.{classes}
use Rattle.rules.specs.Regions.{col, span, extent, start_of, footprint}
use Rattle.rules.proofs.Tables.{span_same, trio}

-- a sum with one class more at its end
pub span_last : (f : ℕ → ℕ) (k n : ℕ) → span f k (suc n) ≡ span f k n + f (k + n)
unfolding span
span_last f k zero = omega (arith, ap f (add-zero k))
span_last f k (suc n) =
    let e : k + suc n ≡ suc k + n = omega arith in
    omega (arith, span_last f (suc k) n, ap f e)

module _ (q : ℕ) (sizes : List ℕ) where
  -- each region starts where the one before it ends
  pub start_next : (c : ℕ) → 1 ≤ c → start_of q sizes (suc c) ≡ start_of q sizes c + extent q sizes c
  start_next c l =
      let e : suc c - 1 ≡ suc (c - 1) = omega arith in
      let d : 1 + (c - 1) ≡ c = omega arith in
      omega (arith, ap (span (extent q sizes) 1) e, span_last (extent q sizes) 1 (c - 1), ap (extent q sizes) d)

  -- a region ends before any later one starts
  pub climbs : (c d : ℕ) → 1 ≤ c → c < d → start_of q sizes c + extent q sizes c ≤ start_of q sizes d
  climbs c zero l m = absurd (omega arith)
  climbs c (suc d) l m = elim (eq-or-lt_of_le m) [
    | inl e ↦ rw (← e) (omega (arith, start_next c l))
    | inr k ↦ omega (arith, climbs c d l (omega arith), start_next d (omega arith))
  ]

  -- starts rise
  pub starts_rise : (c d : ℕ) → 1 ≤ c → c ≤ d → start_of q sizes c ≤ start_of q sizes d
  starts_rise c d l m = elim (eq-or-lt_of_le m) [ inl e ↦ rw e (omega arith) | inr k ↦ omega (arith, climbs c d l k) ]

  -- a region ends within the footprint
  pub region_ends : (c : ℕ) → 1 ≤ c → c ≤ classes → start_of q sizes c + extent q sizes c ≤ footprint q sizes
  region_ends c l m = climbs c (suc classes) l (omega arith)

  -- a region that a byte at or above start b lies below the end of is b or a later one
  pub region_from : (b c : ℕ) → 1 ≤ c → start_of q sizes b < start_of q sizes c + extent q sizes c → b ≤ c
  region_from b c l m = elim (trio c b) [
    | inl k ↦ absurd (omega (arith, climbs c b l k))
    | inr k ↦ elim k [ inl e ↦ omega arith | inr r ↦ omega arith ]
  ]

-- columns that agree below a class have the same starts up to it
pub starts_agree : (q : ℕ) (sizes new : List ℕ) (c : ℕ) → ((i : ℕ) → 1 ≤ i → i < c → col sizes i ≡ col new i)
    → start_of q sizes c ≡ start_of q new c
starts_agree q sizes new c h =
    span_same (extent q sizes) (extent q new) 1 (c - 1) (λ i a b. rw (h i a (omega arith)))
