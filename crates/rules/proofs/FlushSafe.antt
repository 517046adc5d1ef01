-- Law 6: every target of a flush's plan misses every place held now and every place held since the last wait.
-- A sound store gives what the four phases ask for when a flush begins, and the plan is these phases. Where a flush has nothing to move, it waits once.
use mathlib.Core.Path.{◌≡◌, refl, sym, ap}
use mathlib.Core.Logic.{◌⊎◌, inl, inr}
use mathlib.Core.Bool.{not, ◌&&◌}
use mathlib.Core.List.{List, [], ◌∷◌, reverse_aux}
use Prim.Native.Nat.{ℕ, suc, ◌≤◌}
use native.Mathlib.Omega.{arith}
use native.Mathlib.Nat.{le-max_left, le-max_right}
use lib.ListN.{length}
use Rattle.rules.specs.House.{classes}
use Rattle.rules.specs.Classes.{Obj, end_of, placed}
use Rattle.rules.specs.Regions.{start_of, footprint}
use Rattle.rules.specs.Flush.{Start, Act, live, rebound, new_footprint, limit, overflow_start, in_payload, in_flush, payloads, buffered, overflow}
use Rattle.rules.specs.Flush.{new_place, stacked, settled, or_wait, plan}
use Rattle.rules.proofs.Lists.{All, In, all_map, all_append, all_both, all_left, all_right}
use Rattle.rules.proofs.Facts.{Fits, Distinct}
use Rattle.rules.proofs.Geometry.{starts_rise}
use Rattle.rules.proofs.Names.{kinds_settled, in_left, in_right, in_either, filter_in}
use Rattle.rules.proofs.Buffered.{no_regions_lem}
use Rattle.rules.proofs.Counts.{short_payloads}
use Rattle.rules.proofs.Ends.{payload_finals, overflow_finals}
use Rattle.rules.proofs.Safe.{Misses, Safe, safe_weaken, Divided}
use Rattle.rules.proofs.Rows.{in_reverse, reverse_in}
use Rattle.rules.proofs.Ready.{phases, Ready}
use Rattle.rules.proofs.Phases.{phases_safe}
use Rattle.rules.proofs.Begin.{floor_of, untouched, Begins, untouched_low, payloads_flushed, buffered_flushed, payloads_chain, buffered_chain}
use Rattle.rules.proofs.Begin.{payload_or_buffered, old_divided}
use Rattle.rules.proofs.Finals.{finals_spread, overs_disjoint, overs_inside, overs_apart}

-- the objects held once the plan is carried out: those left alone, and all others at their final places
pub record Settled (q : ℕ) (s : Start) (now : List Obj) : Type 0 where
  pub differ : Distinct now
  pub there : (o : Obj) → In o (untouched q s) ⊎ (In o (payload_finals q s) ⊎ In o (overflow_finals q s)) → In o now
  pub only : (o : Obj) → In o now → In o (untouched q s) ⊎ (In o (payload_finals q s) ⊎ In o (overflow_finals q s))

one_there : (at : ℕ) (os : List Obj) → length os ≤ 1 → All (λ o. o.at ≡ at) os → stacked at os ≡ os
unfolding stacked
one_there at [] l h = refl
one_there at (o ∷ []) l h = let e = h.0 in ap (λ (x : ℕ). placed o x ∷ []) (sym e)
one_there at (o ∷ x ∷ xs) l h = absurd (omega arith)

or_wait_lem : (P : List Obj → Type 0) (acts : List Act) (now seen : List Obj) → Safe acts (λ n e. P n) now seen → Safe (or_wait acts) (λ n e. P n) now seen
or_wait_lem P [] now seen s = s
or_wait_lem P (a ∷ acts) now seen s = s

from_old : (q : ℕ) (s : Start) (o : Obj) → In o (buffered q s) ⊎ (In o (payloads q s) ⊎ In o (untouched q s)) → In o s.old
unfolding payloads buffered untouched
from_old q s o (inl m) = (filter_in (λ x. in_flush q s x && not (in_payload q s.regions x)) s.old o m).0
from_old q s o (inr (inl m)) = (filter_in (λ x. in_flush q s x && in_payload q s.regions x) s.old o m).0
from_old q s o (inr (inr m)) = (filter_in (λ x. not (in_flush q s x)) s.old o m).0

module _ {q : ℕ} {s : Start} (g : Begins q s) where
  divided : Divided (buffered q s) (reverse_aux (payloads q s) (reverse_aux s.new (untouched q s))) (live s)
  divided = record { differ = g.differ; there = there; sorted = λ o m. sorted o (in_either o s.old s.new m) }
    where
      there : (o : Obj) → In o (buffered q s) ⊎ In o (reverse_aux (payloads q s) (reverse_aux s.new (untouched q s))) → In o (live s)
      there o (inl m) = in_left o s.old s.new (from_old q s o (inl m))
      there o (inr m) = elim (reverse_in o (payloads q s) (reverse_aux s.new (untouched q s)) m) [
        | inl k ↦ in_left o s.old s.new (from_old q s o (inr (inl k)))
        | inr k ↦ elim (reverse_in o s.new (untouched q s) k) [
          | inl l ↦ in_right o s.old s.new l
          | inr l ↦ in_left o s.old s.new (from_old q s o (inr (inr l)))
        ]
      ]

      rest : (o : Obj) → In o (payloads q s) ⊎ (In o s.new ⊎ In o (untouched q s))
          → In o (reverse_aux (payloads q s) (reverse_aux s.new (untouched q s)))
      rest o (inl m) = in_reverse o (payloads q s) (reverse_aux s.new (untouched q s)) (inl m)
      rest o (inr m) = in_reverse o (payloads q s) (reverse_aux s.new (untouched q s)) (inr (in_reverse o s.new (untouched q s) m))

      sorted : (o : Obj) → In o s.old ⊎ In o s.new → In o (buffered q s) ⊎ In o (reverse_aux (payloads q s) (reverse_aux s.new (untouched q s)))
      sorted o (inr m) = inr (rest o (inr (inl m)))
      sorted o (inl m) = elim (old_divided g o m) [
        | inl k ↦ inl k
        | inr (inl k) ↦ inr (rest o (inl k))
        | inr (inr k) ↦ inr (rest o (inr (inr k)))
      ]

  -- the phases' start
  ready : Ready (limit q s) (floor_of q s) (footprint q s.regions.sizes) (new_footprint q s) (overflow_start q s)
      (buffered q s) (payloads q s) s.new (untouched q s) (payload_finals q s) (overflow_finals q s) (live s)
  unfolding overflow_start
  ready = record {
    held = divided;
    other = payload_or_buffered g;
    sized = all_both (λ o. 1 ≤ o.len) (λ o. o.len ≤ limit q s) (payloads q s)
        (all_map (λ o k. k.0.fits.some_length) (payloads q s) (payloads_flushed g)) (short_payloads q s);
    some = all_append (λ o. 1 ≤ o.len) (buffered q s) s.new
        (all_map (λ o k. k.0.fits.some_length) (buffered q s) (buffered_flushed g))
        (all_map (λ o k. k.some_length) s.new (all_right Fits s.old s.new g.fits));
    buffers = buffered_chain g;
    buffers_end = all_map (λ o k. k.0.upto) (buffered q s) (buffered_flushed g);
    segments = payloads_chain g;
    segments_end = all_map (λ o k. k.0.upto) (payloads q s) (payloads_flushed g);
    lows = untouched_low g;
    written = one_there (new_place q s) s.new g.one (all_map (λ o k. k.0) s.new g.new_there);
    rises = starts_rise q s.regions.sizes s.boundary (suc classes) g.low (omega (arith, g.high));
    below_old = omega (arith, le-max_left (footprint q s.regions.sizes) (new_footprint q s));
    below_new = omega (arith, le-max_right (footprint q s.regions.sizes) (new_footprint q s));
    final_kinds = sym (kinds_settled (start_of q (rebound s).sizes) [] (payloads q s));
    final_spread = finals_spread g;
    over_kinds = sym (kinds_settled (start_of q (rebound s).sizes) (payloads q s) (overflow q s));
    over_pairs = overs_disjoint g;
    over_inside = overs_inside g;
    over_apart = overs_apart g;
  }

  -- where nothing old is flushed, either nothing is stored or no page seen lies in the flushed regions
  bare : (seen : List Obj) → All (λ o. end_of o ≤ footprint q s.regions.sizes) seen → payloads q s ≡ [] → buffered q s ≡ []
      → (f : Obj) → In f (overflow_finals q s) → All (Misses (floor_of q s) (overflow_start q s)) seen
  unfolding settled
  bare seen below p b f m = elim g.request [
    | inl e ↦ absurd (rw (b, e) at m)
    | inr e ↦ all_map (λ o k x a c d l. omega
        (arith, no_regions_lem q s g.three g.low (omega (arith, g.high)) g.clean (rw e at g.rest) some p)) seen below
  ]
    where
      some : All (λ o. 1 ≤ o.len) s.old
      some = all_map (λ o k. k.some_length) s.old (all_left Fits s.old s.new g.fits)

  -- THE PLAN OF A FLUSH IS SAFE: at its end each object flushed is at its final place and the others are where they were. The pages seen before it
  -- are those kept in the last map or held since; they end by the footprint F, and nothing is asked of their lengths. A page that was deleted since
  -- the last map may be longer than D. It does no harm: at the first wait a map of live pages becomes the last one, so it is the first run alone
  -- that must spare it. If this is phase 1, it writes at G and above. If it is of phase 2, it takes at most B + D bytes below G, and so writes at or
  -- above F. If it is phase 4, nothing old is flushed: then a delete moves nothing, and for an insert the flushed regions are empty and start at F
  -- (`bare`). Phase 3 follows phase 2.
  pub plan_safe : (seen : List Obj) → All (λ o. end_of o ≤ footprint q s.regions.sizes) seen
      → Safe (plan q s) (λ now seen'. Settled q s now) (live s) seen
  unfolding plan
  plan_safe seen below =
      let acts = phases (limit q s) (overflow_start q s) (buffered q s) (payloads q s) s.new (payload_finals q s) (overflow_finals q s) in
      or_wait_lem (Settled q s) acts (live s) seen (safe_weaken (λ n e d. end n d) acts (live s) seen
      (phases_safe (limit q s) (floor_of q s) (footprint q s.regions.sizes) (new_footprint q s) (overflow_start q s)
      (buffered q s) (payloads q s) s.new (untouched q s) (payload_finals q s) (overflow_finals q s) (live s) seen ready below (bare seen below)))
    where
      end : (now : List Obj) → Divided [] (reverse_aux (overflow_finals q s) (reverse_aux (payload_finals q s) (untouched q s))) now → Settled q s now
      end now d = record {
        differ = d.differ;
        there = λ o m. d.there o (inr (in_reverse o (overflow_finals q s) (reverse_aux (payload_finals q s) (untouched q s)) (elim m [
          | inl k ↦ inr (in_reverse o (payload_finals q s) (untouched q s) (inr k))
          | inr (inl k) ↦ inr (in_reverse o (payload_finals q s) (untouched q s) (inl k))
          | inr (inr k) ↦ inl k
        ])));
        only = λ o m. elim (d.sorted o m) [
          | inl k ↦ absurd k
          | inr k ↦ elim (reverse_in o (overflow_finals q s) (reverse_aux (payload_finals q s) (untouched q s)) k) [
            | inl l ↦ inr (inr l)
            | inr l ↦ elim (reverse_in o (payload_finals q s) (untouched q s) l) [ inl i ↦ inr (inl i) | inr i ↦ inl i ]
          ]
        ];
      }
