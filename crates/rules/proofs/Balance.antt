-- Balance is kept (law 3). An entry or a record makes its buffer's used size and, at its class, the live volume differ by the same length, and
-- between clean classes both fall into the same span. A class above the top gets as much payload as volume. A flush is in Rebound.antt.
use mathlib.Core.Path.{◌≡◌, ap}
use mathlib.Core.Logic.{inl, inr}
use Prim.Native.Nat.{ℕ, suc, ◌+◌, ◌≤◌, ◌<◌}
use native.Mathlib.Omega.{arith}
use native.Mathlib.Nat.{lt_of_not-le}
use Rattle.rules.specs.House.{classes}
use Rattle.rules.specs.Regions.{Regions, col, span}
use Rattle.rules.specs.Placing.{lower_of, put, entered, raised}
use Rattle.rules.proofs.Tables.{span_le, span_same, more, more_le, span_more_in, span_more_out, in_span}
use Rattle.rules.proofs.Puts.{put_here, put_off, same_or_not, put_more, lower_class, lower_low}
use Rattle.rules.proofs.Facts.{Clean, Balanced}

-- an entry or a record of n bytes and class c in buffer j
module _ (t : Regions) (j c n : ℕ) (up : c ≤ j) (last : j ≤ classes) (some : 0 < n)
    (lowest_some : (i : ℕ) → 1 ≤ i → i ≤ classes → 0 < col t.useds i → (1 ≤ col t.lowests i) × (col t.lowests i ≤ i)) where
  pub used_more : (i : ℕ) → i ≤ classes → col (entered t j c n).useds i ≡ more j n (col t.useds) i
  used_more i l = put_more j _ n t.useds i l (omega arith)

  used_here : 0 < col (entered t j c n).useds j
  used_here = rw put_here (omega arith)

  pub low_here : col (entered t j c n).lowests j ≤ c
  low_here = omega (arith, put_here j (lower_of (col t.lowests j) c) t.lowests last, lower_class (col t.lowests j) c)

  pub low_falls : (i : ℕ) → 1 ≤ i → i ≤ classes → 0 < col t.useds i → col (entered t j c n).lowests i ≤ col t.lowests i
  low_falls i a l u = elim (same_or_not i j) [
    | inl s ↦ omega (
      arith,
      ap (col (entered t j c n).lowests) s,
      ap (col t.lowests) s,
      put_here j (lower_of (col t.lowests j) c) t.lowests last,
      lower_low (col t.lowests j) c (omega (arith, (lowest_some i a l u).0, ap (col t.lowests) s)),
    )
    | inr d ↦ omega (arith, put_off j (lower_of (col t.lowests j) c) t.lowests i l d)
  ]

  clean_before : (k : ℕ) → 1 ≤ k → Clean (entered t j c n) k → Clean t k
  clean_before k p h i a b u = omega (arith, h i a b (omega (arith, used_more i b, more_le j n (col t.useds) i)), low_falls i (omega arith) b u)

  used_span : (k m : ℕ) → k + m ≤ suc classes → span (col (entered t j c n).useds) k m ≡ span (more j n (col t.useds)) k m
  used_span k m l = span_same (col (entered t j c n).useds) (more j n (col t.useds)) k m (λ i a b. used_more i (omega arith))

  -- with its entry an object of class c comes to live
  pub entry_balanced : (has now : ℕ → ℕ) → ((i : ℕ) → 1 ≤ i → i ≤ classes → now i ≡ more c n has i) → Balanced t has
      → Balanced (entered t j c n) now
  entry_balanced has now grows h k m a b low high =
      let p = h k m a b (clean_before k a low) (clean_before (k + m) (omega arith) high) in
      let g = span_same now (more c n has) k m (λ i x y. grows i (omega arith) (omega arith)) in
      elim (in_span k m j) [
        | inl w ↦ omega (
          arith,
          used_span k m b,
          span_more_in j n (col t.useds) k m w.0 w.1,
          span_more_in c n has k m (omega (arith, low j w.0 last used_here, low_here)) (omega (arith, w.1)),
        )
        | inr o ↦ omega (arith, used_span k m b, span_more_out j n (col t.useds) k m o, span_le has (more c n has) k m (λ i x y. more_le c n has i))
      ]

  -- with its record an object of class c is gone
  pub record_balanced : (has now : ℕ → ℕ) → ((i : ℕ) → 1 ≤ i → i ≤ classes → has i ≡ more c n now i) → Balanced t has
      → Balanced (entered t j c n) now
  record_balanced has now falls h k m a b low high =
      let p = h k m a b (clean_before k a low) (clean_before (k + m) (omega arith) high) in
      let g = span_same has (more c n now) k m (λ i x y. falls i (omega arith) (omega arith)) in
      elim (in_span k m c) [
        | inl w ↦ omega (
          arith,
          used_span k m b,
          span_more_in c n now k m w.0 w.1,
          span_more_in j n (col t.useds) k m (omega (arith, w.0)) (below w),
        )
        | inr o ↦ omega (
          arith,
          used_span k m b,
          span_more_out c n now k m o,
          span_le (col t.useds) (more j n (col t.useds)) k m (λ i x y. more_le j n (col t.useds) i),
        )
      ]
    where
      below : (k ≤ c) × (c < k + m) → j < k + m
      below w = lt_of_not-le (λ l. omega (arith, high j l last used_here, low_here, w.1))

-- a class with no payload gets one, as an object of its class comes to live
pub raised_balanced : (t : Regions) (c n : ℕ) (has now : ℕ → ℕ) → col t.sizes c ≡ 0
    → ((i : ℕ) → 1 ≤ i → i ≤ classes → now i ≡ more c n has i)
    → Balanced t has → Balanced (raised t c n) now
raised_balanced t c n has now none grows h k m a b low high =
    let p = h k m a b low high in
    let g = span_same now (more c n has) k m (λ i x y. grows i (omega arith) (omega arith)) in
    let s = span_same (col (put c n t.sizes)) (more c n (col t.sizes)) k m (λ i x y. put_more c n n t.sizes i (omega arith) (omega arith)) in
    elim (in_span k m c) [
      | inl w ↦ omega (arith, span_more_in c n (col t.sizes) k m w.0 w.1, span_more_in c n has k m w.0 w.1)
      | inr o ↦ omega (arith, span_more_out c n (col t.sizes) k m o, span_more_out c n has k m o)
    ]
