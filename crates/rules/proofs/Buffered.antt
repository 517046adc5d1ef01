-- What a flush takes from the old buffers. Each object that is not in its payload lies in the used part of some buffer, so the buffered objects
-- together are no longer than what is used there. Where no object lies in a flushed payload, the balance then leaves no payload at all: what is used
-- is at most a third of the payloads, and they are at most twice what is used.
use mathlib.Core.Path.{◌≡◌, ap}
use mathlib.Core.Logic.{inl, inr}
use mathlib.Core.Bool.{true, false, not, ◌&&◌}
use mathlib.Core.List.{List, [], ◌∷◌}
use Prim.Native.Nat.{ℕ, zero, suc, ◌+◌, ◌*◌, ◌≤◌, ◌<◌}
use native.Mathlib.Omega.{arith}
use native.Mathlib.Nat.{mul-le-mul_left, mul-le-mul_right}
use borrow.Author.Tests.{leb-true, le-leb, not-true}
use Rattle.rules.specs.House.{classes}
use Rattle.rules.specs.Classes.{Obj, cls, volume, volume_of}
use Rattle.rules.specs.Regions.{col, span, up_from, start_of, footprint}
use Rattle.rules.specs.Flush.{Start, in_payload, in_flush, payloads, buffered}
use Rattle.rules.specs.Sound.{live_at}
use Rattle.rules.proofs.Lists.{clash, is_false, and_true, true_and, All, In, in_all, all_in_lem, all_map, all_both, filter_all, in_filter}
use Rattle.rules.proofs.Tables.{span_same, trio}
use Rattle.rules.proofs.Facts.{within_test, Lies, Chain, Clean, Rest}
use Rattle.rules.proofs.Geometry.{starts_rise}
use Rattle.rules.proofs.Insertion.{filter_chain}
use Rattle.rules.proofs.Clear.{start_footprint}
use Rattle.rules.proofs.Footprint.{shares, useds_within, clean_last}
use Rattle.rules.proofs.Volumes.{live_zero, classes_taken, InUsed, used_volume}

-- objects that lie apart, all from a place on
pub chain_higher : (lo high : ℕ) (os : List Obj) → Chain lo os → All (λ o. high ≤ o.at) os → Chain high os
chain_higher lo high [] c h = tt
chain_higher lo high (o ∷ os) c h = (h.0, c.1)

module _ (q : ℕ) (s : Start) (gone : ℕ) (rest : Rest q s.regions s.old gone) (some : All (λ o. 1 ≤ o.len) s.old) where
  -- a buffered object lies in a flushed region, and in the used part of a buffer
  pub buffered_lie : All (λ o. (start_of q s.regions.sizes s.boundary ≤ o.at) × InUsed q s.regions o) (buffered q s)
  unfolding buffered
  buffered_lie =
      all_map (λ o h. let p = and_true (in_flush q s o) (not (in_payload q s.regions o)) h.1 in
      (leb-true _ _ p.0, used o h.0.0 h.0.1 (not-true (in_payload q s.regions o) p.1)))
      (buffered q s) (filter_all (λ o. Lies q s.regions o × (1 ≤ o.len)) (λ o. in_flush q s o && not (in_payload q s.regions o)) s.old
      (all_both (Lies q s.regions) (λ o. 1 ≤ o.len) s.old rest.lies some))
    where
      used : (o : Obj) → Lies q s.regions o → 1 ≤ o.len → in_payload q s.regions o ≡ false → InUsed q s.regions o
      used o (inl p) l e = absurd (clash (within_test (start_of q s.regions.sizes (cls o)) (col s.regions.sizes (cls o)) o p.0 p.1) e)
      used o (inr b) l e = record { number = b.number; least = b.least; most = b.most; some = l; from = b.inside.from; upto = b.inside.upto }

  -- together they are no longer than what the flushed buffers have used
  pub buffered_volume : s.boundary ≤ suc classes → volume (buffered q s) ≤ span (col s.regions.useds) s.boundary (up_from s.boundary)
  unfolding buffered
  buffered_volume l =
      used_volume q s.regions rest.used_fits_lem (buffered q s) s.boundary l
      (chain_higher 0 (start_of q s.regions.sizes s.boundary) (buffered q s)
      (filter_chain (λ o. in_flush q s o && not (in_payload q s.regions o)) s.old 0 rest.apart) (all_map (λ o h. h.0) (buffered q s) buffered_lie))
      (all_map (λ o h. h.1) (buffered q s) buffered_lie)

-- one class has no more than the sum over a span with it
pub span_part : (f : ℕ → ℕ) (k n i : ℕ) → k ≤ i → i < k + n → f i ≤ span f k n
unfolding span
span_part f k zero i a b = absurd (omega arith)
span_part f k (suc n) i a b = elim (trio k i) [
  | inl l ↦ omega (arith, span_part f (suc k) n i l (omega arith))
  | inr h ↦ elim h [ inl e ↦ omega (arith, ap f e) | inr l ↦ absurd (omega arith) ]
]

-- plain numbers: p the payloads, u what is used
none_left : (q p u : ℕ) → 3 ≤ q → q * u ≤ p → p ≤ u + u → p ≡ 0
none_left q p u l m n = omega (arith, mul-le-mul_right u l)

module _ (q : ℕ) (s : Start) (wide : 3 ≤ q) (least : 1 ≤ s.boundary) (most : s.boundary ≤ suc classes) (clean : Clean s.regions s.boundary)
    (rest : Rest q s.regions s.old 0) (some : All (λ o. 1 ≤ o.len) s.old) (none : payloads q s ≡ []) where
  in_flush_lem : (o : Obj) → Lies q s.regions o → s.boundary ≤ cls o → in_flush q s o ≡ true
  in_flush_lem o (inl p) l = le-leb (start_of q s.regions.sizes s.boundary) o.at (omega (
    arith,
    p.0,
    starts_rise q s.regions.sizes s.boundary (cls o) least l,
  ))
  in_flush_lem o (inr b) l = le-leb (start_of q s.regions.sizes s.boundary) o.at (omega (
    arith,
    b.inside.from,
    starts_rise q s.regions.sizes s.boundary b.number least (omega (arith, b.inside.up)),
  ))

  no_payload : (o : Obj) → In o s.old → in_flush q s o ≡ true → in_payload q s.regions o ≡ false
  unfolding payloads
  no_payload o m f = is_false (in_payload q s.regions o)
      (λ e. rw none at (in_filter (λ o. in_flush q s o && in_payload q s.regions o) o s.old
      (true_and (in_flush q s o) (in_payload q s.regions o) f e) m))

  taken : All (λ o. s.boundary ≤ cls o → (in_flush q s o && not (in_payload q s.regions o)) ≡ true) s.old
  taken = all_in_lem (λ o. s.boundary ≤ cls o → (in_flush q s o && not (in_payload q s.regions o)) ≡ true) s.old (λ o m l.
      let f = in_flush_lem o (in_all (Lies q s.regions) s.old rest.lies o m) l in
      true_and (in_flush q s o) (not (in_payload q s.regions o)) f (ap not (no_payload o m f)))

  sizes_gone : span (col s.regions.sizes) s.boundary (up_from s.boundary) ≡ 0
  unfolding buffered
  sizes_gone =
      let b = s.boundary in
      let e : b + up_from b ≡ suc classes = omega arith in
      let last : Clean s.regions (b + up_from b) = rw e (clean_last s.regions) in
      none_left q (span (col s.regions.sizes) b (up_from b)) (span (col s.regions.useds) b (up_from b)) wide
      (omega (
        arith,
        shares q s.regions.sizes b (up_from b),
        mul-le-mul_left q (useds_within q s.regions rest.used_fits_lem b (up_from b) least (omega arith)),
      ))
      (omega (
        arith,
        rest.balance b (up_from b) least (omega arith) clean last,
        buffered_volume q s 0 rest some most,
        span_same (live_at s.old 0) (λ c. volume_of c s.old) b (up_from b) (λ i c d. live_zero s.old i),
        classes_taken b (up_from b) (λ o. in_flush q s o && not (in_payload q s.regions o)) s.old taken,
      ))

  -- with no object in a flushed payload there is no flushed payload
  pub no_payloads : (i : ℕ) → s.boundary ≤ i → i ≤ classes → col s.regions.sizes i ≡ 0
  no_payloads i a b = omega (arith, sizes_gone, span_part (col s.regions.sizes) s.boundary (up_from s.boundary) i a (omega arith))

  -- and the flushed regions are empty
  pub no_regions_lem : start_of q s.regions.sizes s.boundary ≡ footprint q s.regions.sizes
  no_regions_lem = start_footprint q s.regions.sizes s.boundary least most no_payloads
