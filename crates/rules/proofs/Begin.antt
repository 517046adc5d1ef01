-- What a sound store gives when a flush begins: where each object lies, and so which are flushed.
-- Each object lies in a region, and regions lie in class order. So an object ends at or below the floor, the start of the flushed regions, or begins
-- at or above it; and in the second case it is of a flushed class, since no flushed buffer reaches below the boundary. New bounds leave the regions
-- below the boundary where they were.
use mathlib.Core.Path.{◌≡◌, refl, ap, ◌∙◌}
use mathlib.Core.Logic.{◌⊎◌, inl, inr}
use mathlib.Core.Bool.{Bool, true, false, not, ◌&&◌}
use mathlib.Core.List.{List, [], ◌∷◌}
use Prim.Native.Nat.{ℕ, ◌+◌, ◌≤◌, ◌<◌}
use native.Mathlib.Omega.{arith}
use lib.ListN.{length}
use borrow.Author.Tests.{leb-true, leb-false, not-true}
use Rattle.rules.specs.House.{classes}
use Rattle.rules.specs.Classes.{Obj, cls, class_of, end_of, filter}
use Rattle.rules.specs.Regions.{col, extent, start_of, footprint}
use Rattle.rules.specs.Flush.{Start, live, new_place, in_payload, in_flush, payloads, buffered}
use Rattle.rules.proofs.Lists.{clash, and_true, All, In, in_all, all_map, all_left, filter_all, in_filter}
use Rattle.rules.proofs.Tables.{trio}
use Rattle.rules.proofs.Facts.{within_fact, within_test, Payload, Lies, Chain, Clean, Rest, Fits, Distinct}
use Rattle.rules.proofs.Geometry.{climbs, starts_rise, region_ends, region_from}
use Rattle.rules.proofs.Insertion.{filter_chain}
use Rattle.rules.proofs.Buffered.{chain_higher}
use Rattle.rules.proofs.RestKept.{classed}
use Rattle.rules.proofs.Homes.{Classed, Ordered}

-- the start of the flushed regions
abbrev pub floor_of : ℕ → Start → ℕ
floor_of q s = start_of q s.regions.sizes s.boundary

-- the objects that a flush leaves alone
unfoldable pub untouched : ℕ → Start → List Obj
untouched q s = filter (λ o. not (in_flush q s o)) s.old

-- what a sound store gives when a flush begins
pub record Begins (q : ℕ) (s : Start) : Type 0 where
  pub three : 3 ≤ q
  pub gone : ℕ
  pub rest : Rest q s.regions s.old gone
  pub request : (s.new ≡ []) ⊎ (gone ≡ 0)
  pub gone_class : (gone ≡ 0) ⊎ (s.boundary ≤ class_of gone)
  pub fits : All Fits (live s)
  pub differ : Distinct (live s)
  pub low : 1 ≤ s.boundary
  pub high : s.boundary ≤ classes
  pub clean : Clean s.regions s.boundary
  pub new_there : All (λ o. (o.at ≡ new_place q s) × (s.boundary ≤ cls o)) s.new
  pub one : length s.new ≤ 1

-- an object lies in a region, and is of a flushed class if the region is flushed
pub record Inside (q : ℕ) (s : Start) (o : Obj) : Type 0 where
  pub fits : Fits o
  pub region : ℕ
  pub least : 1 ≤ region
  pub most : region ≤ classes
  pub from : start_of q s.regions.sizes region ≤ o.at
  pub upto : end_of o ≤ start_of q s.regions.sizes region + extent q s.regions.sizes region
  pub high : s.boundary ≤ region → s.boundary ≤ cls o

-- an object lies in a flushed region
pub record Flushed (q : ℕ) (s : Start) (o : Obj) : Type 0 where
  pub fits : Fits o
  pub from : floor_of q s ≤ o.at
  pub upto : end_of o ≤ footprint q s.regions.sizes
  pub of : Classed s.boundary o

module _ {q : ℕ} {s : Start} (g : Begins q s) where
  inside : (o : Obj) → Lies q s.regions o → Fits o → Inside q s o
  inside o (inl p) f = record {
    fits = f;
    region = cls o;
    least = (classed o f).0;
    most = (classed o f).1;
    from = p.0;
    upto = omega (arith, p.1);
    high = λ l. l;
  }
  inside o (inr b) f = record {
    fits = f;
    region = b.number;
    least = b.least;
    most = b.most;
    from = omega (arith, b.inside.from);
    upto = omega (arith, b.inside.upto, g.rest.used_fits_lem b.number b.least b.most);
    high = λ l. omega (arith, b.inside.low, g.clean b.number l b.most (omega (arith, b.inside.from, b.inside.upto, f.some_length)));
  }

  -- every old object lies in a region
  pub all_inside : All (Inside q s) s.old
  all_inside = go s.old g.rest.lies (all_left Fits s.old s.new g.fits)
    where
      go : (os : List Obj) → All (Lies q s.regions) os → All Fits os → All (Inside q s) os
      go [] l f = tt
      go (o ∷ os) l f = (inside o l.0 f.0, go os l.1 f.1)

  flushed : (o : Obj) → Inside q s o → in_flush q s o ≡ true → Flushed q s o
  flushed o i e =
      let l = leb-true (floor_of q s) o.at e in
      record {
        fits = i.fits;
        from = l;
        upto = omega (arith, i.upto, region_ends q s.regions.sizes i.region i.least i.most);
        of = (
          i.high (region_from q s.regions.sizes s.boundary i.region i.least (omega (arith, i.upto, i.fits.some_length))),
          (classed o i.fits).1,
        );
      }

  -- what is left alone ends at or below the floor
  pub untouched_low : All (λ o. end_of o ≤ floor_of q s) (untouched q s)
  unfolding untouched
  untouched_low = all_map (λ o k. low o k.0 (leb-false _ _ (not-true (in_flush q s o) k.1))) (filter (λ o. not (in_flush q s o)) s.old)
      (filter_all (Inside q s) (λ o. not (in_flush q s o)) s.old all_inside)
    where
      low : (o : Obj) → Inside q s o → o.at < floor_of q s → end_of o ≤ floor_of q s
      low o i l = elim (trio i.region s.boundary) [
        | inl m ↦ omega (arith, i.upto, climbs q s.regions.sizes i.region s.boundary i.least m)
        | inr m ↦ absurd (omega (
          arith,
          i.from,
          starts_rise q s.regions.sizes s.boundary i.region g.low (elim m [ inl e ↦ omega arith | inr k ↦ omega arith ]),
        ))
      ]

  -- payload objects lie in flushed payloads
  pub payloads_flushed : All (λ o. Flushed q s o × Payload q s.regions o) (payloads q s)
  unfolding payloads
  payloads_flushed = all_map (λ o k. both o k.0 (and_true (in_flush q s o) (in_payload q s.regions o) k.1))
      (filter (λ o. in_flush q s o && in_payload q s.regions o) s.old)
      (filter_all (Inside q s) (λ o. in_flush q s o && in_payload q s.regions o) s.old all_inside)
    where
      both : (o : Obj) → Inside q s o → (in_flush q s o ≡ true) × (in_payload q s.regions o ≡ true) → Flushed q s o × Payload q s.regions o
      both o i p = (flushed o i p.0, within_fact (start_of q s.regions.sizes (cls o)) (col s.regions.sizes (cls o)) o p.1)

  -- buffered objects lie in flushed regions, and not in the payload of their class
  pub buffered_flushed : All (λ o. Flushed q s o × (in_payload q s.regions o ≡ false)) (buffered q s)
  unfolding buffered
  buffered_flushed = all_map (λ o k. both o k.0 (and_true (in_flush q s o) (not (in_payload q s.regions o)) k.1))
      (filter (λ o. in_flush q s o && not (in_payload q s.regions o)) s.old)
      (filter_all (Inside q s) (λ o. in_flush q s o && not (in_payload q s.regions o)) s.old all_inside)
    where
      both : (o : Obj) → Inside q s o → (in_flush q s o ≡ true) × (not (in_payload q s.regions o) ≡ true)
          → Flushed q s o × (in_payload q s.regions o ≡ false)
      both o i p = (flushed o i p.0, not-true (in_payload q s.regions o) p.1)

  -- flushed objects rise from the floor on
  flushed_chain : (f : Obj → Bool) → All (Flushed q s) (filter f s.old) → Chain (floor_of q s) (filter f s.old)
  flushed_chain f h =
      chain_higher 0 (floor_of q s) (filter f s.old) (filter_chain f s.old 0 g.rest.apart) (all_map (λ o k. k.from) (filter f s.old) h)

  pub payloads_chain : Chain (floor_of q s) (payloads q s)
  unfolding payloads
  payloads_chain = flushed_chain (λ o. in_flush q s o && in_payload q s.regions o) (all_map (λ o k. k.0) (payloads q s) payloads_flushed)

  pub buffered_chain : Chain (floor_of q s) (buffered q s)
  unfolding buffered
  buffered_chain = flushed_chain (λ o. in_flush q s o && not (in_payload q s.regions o)) (all_map (λ o k. k.0) (buffered q s) buffered_flushed)

  -- payload objects stand in class order
  pub payloads_ordered : Ordered s.boundary (payloads q s)
  payloads_ordered = go (payloads q s) (floor_of q s) s.boundary (omega arith) payloads_chain payloads_flushed
    where
      go : (os : List Obj) (lo c : ℕ) → start_of q s.regions.sizes c ≤ lo → Chain lo os → All (λ o. Flushed q s o × Payload q s.regions o) os
          → Ordered c os
      go [] lo c l h k = tt
      go (o ∷ os) lo c l h k = (
        region_from q s.regions.sizes c (cls o) (classed o k.0.0.fits).0 (omega (arith, h.0, k.0.1.1, k.0.0.fits.some_length)),
        go os (end_of o) (cls o) (omega (arith, k.0.1.0)) h.1 k.1,
      )

  -- no object is in both lists
  pub payload_or_buffered : (x h : Obj) → In x (payloads q s) → In h (buffered q s) → x ≡ h → ⊥
  payload_or_buffered x h m n e =
      let p = (in_all (λ o. Flushed q s o × Payload q s.regions o) (payloads q s) payloads_flushed x m).1 in
      let b = (in_all (λ o. Flushed q s o × (in_payload q s.regions o ≡ false)) (buffered q s) buffered_flushed h n).1 in
      clash (within_test (start_of q s.regions.sizes (cls x)) (col s.regions.sizes (cls x)) x p.0 p.1) (ap (in_payload q s.regions) e ∙ b)

  -- an old object is a payload object, buffered, or left alone
  pub old_divided : (o : Obj) → In o s.old → In o (buffered q s) ⊎ (In o (payloads q s) ⊎ In o (untouched q s))
  unfolding payloads buffered untouched
  old_divided o m = (elim (in_flush q s o) as (λ b. in_flush q s o ≡ b → Parts) [
    | true ↦ λ e. (elim (in_payload q s.regions o) as (λ b. in_payload q s.regions o ≡ b → Parts) [
      | true ↦ λ f. inr (inl (in_filter (λ x. in_flush q s x && in_payload q s.regions x) o s.old (rw (e, f)) m))
      | false ↦ λ f. inl (in_filter (λ x. in_flush q s x && not (in_payload q s.regions x)) o s.old (rw (e, f)) m)
    ]) refl
    | false ↦ λ e. inr (inr (in_filter (λ x. not (in_flush q s x)) o s.old (rw e) m))
  ]) refl
    where
      Parts : Type 0
      Parts = In o (filter (λ x. in_flush q s x && not (in_payload q s.regions x)) s.old)
          ⊎ (In o (filter (λ x. in_flush q s x && in_payload q s.regions x) s.old) ⊎ In o (filter (λ x. not (in_flush q s x)) s.old))
