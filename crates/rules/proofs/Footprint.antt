-- The footprint law (law 4). Buffers are at most 1/q of the payloads, and by the balance from class 1 up the payloads are at most the volume and what
-- the buffers have used: so q - 1 footprints are at most q + 1 volumes, and q - 1 times the buffers at most the volume.
use mathlib.Core.Path.{◌≡◌}
use mathlib.Core.List.{List}
use Prim.Native.Nat.{ℕ, zero, suc, ◌+◌, ◌-◌, ◌*◌, ◌≤◌}
use native.Mathlib.Omega.{arith}
use native.Mathlib.Nat.{mul-div-le, mul-le-mul_left}
use Rattle.rules.specs.House.{classes}
use Rattle.rules.specs.Classes.{Obj, volume}
use Rattle.rules.specs.Regions.{Regions, col, span, buffer_size, footprint}
use Rattle.rules.proofs.Tables.{span_le, span_sum, span_scale}
use Rattle.rules.proofs.Facts.{Clean, Balanced, Rest}
use Rattle.rules.proofs.Volumes.{live_within}

-- the sum of the buffers of all classes
abbrev pub buffers : ℕ → List ℕ → ℕ
buffers q sizes = span (buffer_size q sizes) 1 classes

-- buffers are at most their share of the payloads
pub shares : (q : ℕ) (sizes : List ℕ) (k n : ℕ) → q * span (buffer_size q sizes) k n ≤ span (col sizes) k n
shares q sizes k n =
    omega (
      arith,
      span_scale q (buffer_size q sizes) k n,
      span_le (λ i. q * buffer_size q sizes i) (col sizes) k n (λ i a b. omega (arith, mul-div-le (col sizes i) q)),
    )

-- what is used is within the buffers
pub useds_within : (q : ℕ) (t : Regions) → ((i : ℕ) → 1 ≤ i → i ≤ classes → col t.useds i ≤ buffer_size q t.sizes i)
    → (k n : ℕ) → 1 ≤ k → k + n ≤ suc classes → span (col t.useds) k n ≤ span (buffer_size q t.sizes) k n
useds_within q t used_fits_lem k n a b = span_le (col t.useds) (buffer_size q t.sizes) k n (λ i c d. used_fits_lem i (omega arith) (omega arith))

-- one past the last class is clean
pub clean_last : (t : Regions) → Clean t (suc classes)
clean_last t i a b u = absurd (omega arith)

-- plain numbers: p the payloads, s the buffers, v the live volume, q = r + 1
footprint_sum : (r p s v : ℕ) → suc r * s ≤ p → p ≤ v + s → r * (p + s) ≤ (r + 2) * v
footprint_sum r p s v h k = omega (arith, mul-le-mul_left r k)

module _ (r : ℕ) (t : Regions) (has : ℕ → ℕ)
    (used_fits_lem : (i : ℕ) → 1 ≤ i → i ≤ classes → col t.useds i ≤ buffer_size (suc r) t.sizes i) (low : Clean t 1)
    (balance : Balanced t has) where
  payloads_within : span (col t.sizes) 1 classes ≤ span has 1 classes + buffers (suc r) t.sizes
  payloads_within =
      omega (
        arith,
        balance 1 classes (omega arith) (omega arith) low (clean_last t),
        useds_within (suc r) t used_fits_lem 1 classes (omega arith) (omega arith),
      )

  -- the footprint, over the live volumes of the classes
  pub footprint_balanced : r * footprint (suc r) t.sizes ≤ (r + 2) * span has 1 classes
  footprint_balanced =
      rw (span_sum (col t.sizes) (buffer_size (suc r) t.sizes) 1 classes)
      (footprint_sum r (span (col t.sizes) 1 classes) (buffers (suc r) t.sizes) (span has 1 classes)
      (shares (suc r) t.sizes 1 classes) payloads_within)

  -- and the buffers
  pub buffers_balanced : r * buffers (suc r) t.sizes ≤ span has 1 classes
  buffers_balanced = omega (arith, payloads_within, shares (suc r) t.sizes 1 classes)

-- class 1 is clean at rest
pub clean_first : {q : ℕ} {t : Regions} {os : List Obj} {gone : ℕ} → Rest q t os gone → Clean t 1
clean_first rest i a b u = (rest.lowest_some i a b u).0

-- THE FOOTPRINT at rest, a deleted length counted: (q - 1) F ≤ (q + 1) V
pub footprint_law : (q : ℕ) (t : Regions) (os : List Obj) (gone : ℕ) → Rest q t os gone
    → (q - 1) * footprint q t.sizes ≤ (q + 1) * (volume os + gone)
footprint_law zero t os gone rest = omega arith
footprint_law (suc r) t os gone rest =
    let e : suc r - 1 ≡ r = omega arith in
    rw e (omega (arith, footprint_balanced r t _ rest.used_fits_lem (clean_first rest) rest.balance, mul-le-mul_left (r + 2) (live_within 1 classes os gone)))

-- the buffers at rest, a deleted length counted: (q - 1) times their sum is at most V
pub buffers_law : (q : ℕ) (t : Regions) (os : List Obj) (gone : ℕ) → Rest q t os gone → (q - 1) * buffers q t.sizes ≤ volume os + gone
buffers_law zero t os gone rest = omega arith
buffers_law (suc r) t os gone rest =
    let e : suc r - 1 ≡ r = omega arith in
    rw e (omega (arith, buffers_balanced r t _ rest.used_fits_lem (clean_first rest) rest.balance, live_within 1 classes os gone))
