-- The new bounds of a flush. Below its boundary a flush keeps what the columns say; from it on each payload is the live volume of its class, and the
-- buffers are empty. So the rules of used sizes and lowest classes hold still, and so does the balance (law 3): below the boundary, which is clean,
-- it is the old one, and above it payload and volume are the same.
use mathlib.Core.Path.{◌≡◌, refl, ap, ◌∙◌}
use mathlib.Core.Logic.{◌⊎◌, inl, inr}
use mathlib.Core.Bool.{cond}
use mathlib.Core.List.{List, [], ◌∷◌}
use Prim.Native.Nat.{ℕ, suc, ◌+◌, ◌-◌, ◌/◌, ◌≤◌, ◌<◌}
use native.Mathlib.Omega.{arith}
use lib.Dec.{ltb}
use borrow.Author.Tests.{lt-ltb, le-ltb, ne_eqb}
use Rattle.rules.specs.House.{classes}
use Rattle.rules.specs.Classes.{Obj, cls, class_of, volume_of}
use Rattle.rules.specs.Regions.{Regions, col, column, span, buffer_size, start_of}
use Rattle.rules.specs.Flush.{Start, live, rebound}
use Rattle.rules.specs.Sound.{live_at}
use Rattle.rules.proofs.Lists.{All, all_map, volume_of_append}
use Rattle.rules.proofs.Tables.{below_or_not, column_at, span_add, span_same, trio}
use Rattle.rules.proofs.Facts.{Clean, Balanced}
use Rattle.rules.proofs.Geometry.{starts_agree}
use Rattle.rules.proofs.Volumes.{live_zero}

-- what the three columns say of a class
pub record Says (t : Regions) (i size used low : ℕ) : Type 0 where
  pub size_is : col t.sizes i ≡ size
  pub used_is : col t.useds i ≡ used
  pub lowest_is : col t.lowests i ≡ low

module _ (s : Start) (i : ℕ) (last : i ≤ classes) where
  choice : (old new : ℕ → ℕ) → col (column (λ k. cond (ltb k s.boundary) (old k) (new k))) i ≡ cond (ltb i s.boundary) (old i) (new i)
  choice old new = column_at (λ k. cond (ltb k s.boundary) (old k) (new k)) i last

  -- a flush keeps the classes below its boundary
  pub rebound_below : i < s.boundary → Says (rebound s) i (col s.regions.sizes i) (col s.regions.useds i) (col s.regions.lowests i)
  unfolding rebound
  rebound_below l = let e = lt-ltb i s.boundary l in record {
    size_is = choice (col s.regions.sizes) (λ k. volume_of k (live s)) ∙ rw e refl;
    used_is = choice (col s.regions.useds) (λ k. 0) ∙ rw e refl;
    lowest_is = choice (col s.regions.lowests) (λ k. 0) ∙ rw e refl;
  }

  -- from its boundary on payloads are the live volumes, and buffers are empty
  pub rebound_above : s.boundary ≤ i → Says (rebound s) i (volume_of i (live s)) 0 0
  unfolding rebound
  rebound_above l = let e = le-ltb i s.boundary l in record {
    size_is = choice (col s.regions.sizes) (λ k. volume_of k (live s)) ∙ rw e refl;
    used_is = choice (col s.regions.useds) (λ k. 0) ∙ rw e refl;
    lowest_is = choice (col s.regions.lowests) (λ k. 0) ∙ rw e refl;
  }

-- a flush keeps the starts of regions up to its boundary
pub rebound_starts : (q : ℕ) (s : Start) (c : ℕ) → s.boundary ≤ suc classes → c ≤ s.boundary
    → start_of q (rebound s).sizes c ≡ start_of q s.regions.sizes c
rebound_starts q s c m l = starts_agree q (rebound s).sizes s.regions.sizes c (λ i a b. (rebound_below s i (omega arith) (omega arith)).size_is)

-- the rules of used sizes and lowest classes after a flush
module _ (s : Start) (i : ℕ) (last : i ≤ classes) where
  -- used space is within the new buffer
  pub rebound_used : (q : ℕ) → col s.regions.useds i ≤ buffer_size q s.regions.sizes i
      → col (rebound s).useds i ≤ buffer_size q (rebound s).sizes i
  rebound_used q h = elim (below_or_not i s.boundary) [
    | inl l ↦ let k = rebound_below s i last l in omega (arith, k.used_is, ap (λ (x : ℕ). x / q) k.size_is)
    | inr l ↦ omega (arith, (rebound_above s i last l).used_is)
  ]

  -- the lowest class is 0 where nothing is used
  pub rebound_none : (col s.regions.useds i ≡ 0 → col s.regions.lowests i ≡ 0) → col (rebound s).useds i ≡ 0
      → col (rebound s).lowests i ≡ 0
  rebound_none h u = elim (below_or_not i s.boundary) [
    | inl l ↦ let k = rebound_below s i last l in omega (arith, k.lowest_is, h (omega (arith, k.used_is)))
    | inr l ↦ (rebound_above s i last l).lowest_is
  ]

  -- and else 1 to the buffer's number
  pub rebound_some : (0 < col s.regions.useds i → (1 ≤ col s.regions.lowests i) × (col s.regions.lowests i ≤ i))
      → 0 < col (rebound s).useds i → (1 ≤ col (rebound s).lowests i) × (col (rebound s).lowests i ≤ i)
  rebound_some h u = elim (below_or_not i s.boundary) [
    | inl l ↦ let k = rebound_below s i last l in rw k.lowest_is (h (omega (arith, k.used_is)))
    | inr l ↦ absurd (omega (arith, (rebound_above s i last l).used_is))
  ]

-- a flush from the clean class b on
module _ (s : Start) (has : ℕ → ℕ) (clean : Clean s.regions s.boundary) (kept : (i : ℕ) → i < s.boundary → has i ≡ volume_of i (live s))
    (balance : Balanced s.regions has) where
  Enough : ℕ → ℕ → Type 0
  Enough k m = span (col (rebound s).sizes) k m ≤ span (λ i. volume_of i (live s)) k m + span (col (rebound s).useds) k m

  clean_old : (k : ℕ) → k ≤ s.boundary → Clean (rebound s) k → Clean s.regions k
  clean_old k l h i a b u = elim (below_or_not i s.boundary) [
    | inl m ↦ let r = rebound_below s i b m in omega (arith, h i a b (omega (arith, r.used_is)), r.lowest_is)
    | inr m ↦ omega (arith, clean i m b u)
  ]

  above : (k m : ℕ) → k + m ≤ suc classes → s.boundary ≤ k → Enough k m
  unfolding Enough
  above k m b l =
      omega (arith, span_same (col (rebound s).sizes) (λ i. volume_of i (live s)) k m (λ i x y. (rebound_above s i (omega arith) (omega arith)).size_is))

  below : (k m : ℕ) → 1 ≤ k → k + m ≤ suc classes → k + m ≤ s.boundary → Clean s.regions k → Clean s.regions (k + m) → Enough k m
  unfolding Enough
  below k m a b l low high =
      omega (
        arith,
        balance k m a b low high,
        span_same (col (rebound s).sizes) (col s.regions.sizes) k m (λ i x y. (rebound_below s i (omega arith) (omega arith)).size_is),
        span_same (col (rebound s).useds) (col s.regions.useds) k m (λ i x y. (rebound_below s i (omega arith) (omega arith)).used_is),
        span_same has (λ i. volume_of i (live s)) k m (λ i x y. kept i (omega arith)),
      )

  across : (k x y : ℕ) → 1 ≤ k → k + (x + y) ≤ suc classes → k + x ≡ s.boundary → Clean (rebound s) k → Enough k (x + y)
  unfolding Enough
  across k x y a b e low =
      let mid : Clean s.regions (k + x) = rw e clean in
      omega (
        arith,
        span_add (col (rebound s).sizes) k x y,
        span_add (λ i. volume_of i (live s)) k x y,
        span_add (col (rebound s).useds) k x y,
        below k x a (omega arith) (omega arith) (clean_old k (omega arith) low) mid,
        above (k + x) y (omega arith) (omega arith),
      )

  rebound_balanced : Balanced (rebound s) (λ i. volume_of i (live s))
  unfolding Enough
  rebound_balanced k m a b low high = elim (trio k s.boundary) [
    | inl l ↦ elim (trio s.boundary (k + m)) [
      | inl g ↦
          let e : (s.boundary - k) + (m - (s.boundary - k)) ≡ m = omega arith in
          rw e at (across k (s.boundary - k) (m - (s.boundary - k)) a (omega arith) (omega arith) low)
      | inr g ↦ let u : k + m ≤ s.boundary = elim g [ inl e ↦ omega arith | inr e ↦ omega arith ] in
          below k m a b u (clean_old k (omega arith) low) (clean_old (k + m) u high)
    ]
    | inr l ↦ above k m b (elim l [ inl e ↦ omega arith | inr e ↦ omega arith ])
  ]

no_volume : (i : ℕ) (os : List Obj) → All (λ o. i < cls o) os → volume_of i os ≡ 0
unfolding volume_of
no_volume i [] h = refl
no_volume i (o ∷ os) h = rw (ne_eqb (cls o) i (λ e. omega (arith, h.0))) (omega (arith, no_volume i os h.1))

-- a flush, with a new object or a deleted one of a class from b on, or neither
pub flush_balanced : (s : Start) (gone : ℕ) → Clean s.regions s.boundary → All (λ o. s.boundary ≤ cls o) s.new
    → (gone ≡ 0) ⊎ (s.boundary ≤ class_of gone)
    → Balanced s.regions (live_at s.old gone) → Balanced (rebound s) (live_at (live s) 0)
flush_balanced s gone clean new_high gone_high balance k m a b low high =
    rw (span_same (live_at (live s) 0) (λ i. volume_of i (live s)) k m (λ i x y. live_zero (live s) i))
    (rebound_balanced s (live_at s.old gone) clean
    (λ i l. omega (
      arith,
      volume_of_append i s.old s.new,
      no_volume i s.new (all_map (λ o h. omega arith) s.new new_high),
      off i l,
    )) balance k m a b low high)
  where
    off : (i : ℕ) → i < s.boundary → live_at s.old gone i ≡ volume_of i s.old
    off i l = elim gone_high [
      | inl e ↦ rw e (live_zero s.old i)
      | inr h ↦ rw (ne_eqb (class_of gone) i (λ e. omega arith)) (omega arith)
    ]
