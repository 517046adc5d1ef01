-- The end of a flush: with all moves made, the regions are the flush's new ones, and the objects key by key are the objects by place.
-- Objects of each kind lie at the places that the layout has for them, which are the rules' (Laid), so the law of crates/orders applies.
use mathlib.Core.Path.{◌≡◌, refl, sym, ap, ◌∙◌}
use mathlib.Core.Bool.{Bool, true, false, cond, not}
use mathlib.Core.List.{List, [], ◌∷◌, append-nil}
use Prim.Native.Nat.{ℕ, suc, ◌-◌, ◌≤◌, ◌<◌}
use native.Mathlib.Omega.{arith}
use lib.Dec.{eqb}
use lib.ListN.{length, get_or, set}
use borrow.Author.Tests.{eqb-true}
use Rattle.rules.specs.House.{share, classes, most_objects}
use Rattle.rules.specs.Classes.{by_place}
use Rattle.rules.specs.Columns.{object_at, listed, picked, stays, of_payload, of_overflow}
use Rattle.rules.specs.Flush.{rebound, in_flush, in_payload, plan}
use Rattle.rules.specs.Stores.{start_in, ahead_of, list_at, list_now, places_now, settled_store}
use Rattle.rules.specs.Calls.{last_ahead}
use Rattle.rules.specs.Sound.{sound}
use Rattle.rules.proofs.Plays.{moves_left}
use Rattle.rules.proofs.Begin.{untouched}
use Rattle.rules.proofs.Begun.{sound_begins}
use Rattle.rules.proofs.Rebound.{rebound_below}
use Rattle.rules.proofs.Ends.{payload_finals, overflow_finals}
use Rattle.edits.specs.declared.Columns.{Columns}
use Rattle.edits.specs.Edits.{objects}
use Rattle.layout.specs.declared.Layout.{Layout}
use Rattle.layout.specs.Layout.{old_kind, kinds_of, layout_of}
use Rattle.layout.proofs.Fills.{filled_at, filled_past}
use Rattle.flush_laws.proofs.Picks.{filter_picked, picked_none, picked_parts}
use Rattle.plan.specs.Turns.{places_after, total_moves}
use Rattle.orders.specs.Orders.{by_key}
use Rattle.flush_laws.proofs.FlushEnd.{plan_sorted}
use Rattle.leaves.specs.declared.regions.Regions.{Regions}
use Rattle.state.specs.declared.State.{State}
use Rattle.state.specs.Model.{sizes_in, regions_in, rests, old_count, flush_of, model_of}
use Rattle.state.specs.Tests.{start_at, layout_in}
use Rattle.state.proofs.Ready.{laid_in, first_zero}
use Rattle.state.proofs.Told.{runs, list_flush, last_flush}
use Rattle.flushing.specs.Flushing.{emptied, resting_in, keys_of}
use Rattle.flushing.proofs.Going.{flush_stage, plan_total, rests_in}
use Rattle.flushing.proofs.Keys.{key_at}
use Rattle.flushing.proofs.Moved.{stays_there, payload_there, overflow_there, picked_same}

-- THE OBJECTS THAT STAY are those of that kind
stay_test : (x y : Bool) → not x ≡ eqb (cond x (cond y of_payload of_overflow) stays) stays
stay_test true true = refl
stay_test true false = refl
stay_test false y = refl

module _ (s : State) (old : ℕ) (part : old ≤ s.count) (few : s.count ≤ most_objects) where
  kind_old : (j : ℕ) → j < old
      → get_or (layout_in s old).kinds j 0 ≡ old_kind (sizes_in s.regions) s.flush.boundary (get_or s.objects.places j 0) (get_or s.objects.lens j 0)
  unfolding layout_of kinds_of
  kind_old j l = filled_at (λ i. old_kind (sizes_in s.regions) s.flush.boundary (get_or s.objects.places i 0)
      (get_or s.objects.lens i 0)) old of_overflow most_objects j (omega arith) l

  kind_new : (j : ℕ) → old ≤ j → j < s.count → get_or (layout_in s old).kinds j 0 ≡ of_overflow
  unfolding layout_of kinds_of
  kind_new j l m = filled_past (λ i. old_kind (sizes_in s.regions) s.flush.boundary (get_or s.objects.places i 0)
      (get_or s.objects.lens i 0)) old of_overflow most_objects j (omega arith) l

  untouched_are : untouched share (start_at s old)
      ≡ picked (layout_in s old).kinds stays s.objects.names s.objects.places s.objects.lens 0 s.count
  unfolding untouched
  untouched_are =
      let names = s.objects.names in
      let places = s.objects.places in
      let lens = s.objects.lens in
      let kinds = (layout_in s old).kinds in
      let none = picked_none names places lens kinds stays (s.count - old) old (λ j p q e. let two = kind_new j p (omega arith) in omega arith) in
      filter_picked names places lens kinds stays (λ o. not (in_flush share (start_at s old) o)) old 0 (λ j p q.
      rw (kind_old j (omega arith)) (stay_test (in_flush share (start_at s old) (object_at names places lens j))
      (in_payload share (regions_in s.regions) (object_at names places lens j))))
      ∙ sym (append-nil (picked kinds stays names places lens 0 old)) ∙ rw (← none) (picked_parts names places lens kinds stays old s.count part)

-- a column whose first number is 0
set_first : (xs : List ℕ) → get_or xs 0 0 ≡ 0 → set xs 0 0 ≡ xs
set_first [] e = refl
set_first (x ∷ xs) e = rw e

module _ (s : State) (ok : sound share (model_of s) ≡ true) (n : length s.regions.sizes ≡ suc classes) (e : rests s.flush ≡ false) where
  abbrev old : ℕ
  old = old_count s

  -- THE REGIONS of the flush's end
  sizes_end : sizes_in (emptied s.regions s.flush.boundary (layout_in s old).sizes) ≡ (rebound (start_at s old)).sizes
  unfolding sizes_in
  sizes_end =
      let r = (runs s ok n e).is_ready in
      let l = laid_in s old r in
      let zero-size : get_or (rebound (start_at s old)).sizes 0 0 ≡ 0 = (rebound_below (start_at s old) 0 (omega arith) (omega (arith, r.least))).size_is
      ∙ first_zero s.regions.sizes in
      rw (← l.sizes_are) (set_first (rebound (start_at s old)).sizes zero-size)

  regions_end : regions_in (emptied s.regions s.flush.boundary (layout_in s old).sizes) ≡ rebound (start_in (model_of s) (flush_of s))
  unfolding rebound
  regions_end =
      ap (λ (sizes : List ℕ). record {
        sizes = sizes;
        useds = (rebound (start_at s old)).useds;
        lowests = (rebound (start_at s old)).lowests;
      }) sizes_end
      ∙ sym (ap rebound (runs s ok n e).start_is)

  module _ (long : s.count ≤ length s.objects.places) (last : last_ahead (ahead_of share (model_of s) (flush_of s)) ≡ true) where
    abbrev kinds : List ℕ
    kinds = (layout_in s old).kinds

    abbrev ends : List ℕ
    ends = places_after kinds s.objects.places (layout_in s old).middles (layout_in s old).finals old s.count (total_moves kinds old s.count)

    -- all moves are made
    made_all : s.flush.made ≡ total_moves kinds old s.count
    made_all = eqb-true s.flush.made (total_moves kinds old s.count) (sym (last_flush s ok n e _ _ s.flush.made _ refl refl refl) ∙ last)

    plan_moves : moves_left (plan share (start_in (model_of s) (flush_of s))) ≡ s.flush.made
    plan_moves = plan_total s ok n e ∙ sym made_all

    -- the objects now
    now_is : list_now share (model_of s) ≡ places_now share (model_of s) (flush_of s)
    unfolding list_now
    now_is = ap (list_at share (model_of s)) (flush_stage s e)

    listed_now : listed s.objects.names ends s.objects.lens 0 s.count ≡ places_now share (model_of s) (flush_of s)
    listed_now =
        let at : ℕ → List ℕ = λ made. places_after kinds s.objects.places (layout_in s old).middles (layout_in s old).finals old s.count made in
        sym (sym now_is ∙ list_flush s ok n e long ∙ ap (λ (made : ℕ). listed s.objects.names (at made) s.objects.lens 0 s.count) made_all)

    picked_end : (k : ℕ) (places : List ℕ) → ((j : ℕ) → j < s.count → get_or kinds j 0 ≡ k → get_or ends j 0 ≡ get_or places j 0)
        → picked kinds k s.objects.names ends s.objects.lens 0 s.count
        ≡ picked kinds k s.objects.names places s.objects.lens 0 s.count
    picked_end k places h = picked_same kinds k s.objects.names ends places s.objects.lens s.count 0 (λ j a b. h j (omega arith))

    -- KEY BY KEY IS BY PLACE
    pub sorted_end : ((k : ℕ) → get_or kinds k 0 ≤ of_overflow)
        → by_key (keys_of kinds s.objects.lens s.count) (list_now share (model_of s)) ≡ by_place (places_now share (model_of s) (flush_of s))
    sorted_end few =
        let r = runs s ok n e in
        let l = laid_in s old r.is_ready in
        let lay = layout_in s old in
        let there = r.start_is in
        let g = sound_begins share (model_of s) (flush_of s) (omega arith) (flush_stage s e) ok in
        let stay = picked_end stays s.objects.places (λ j b q. stays_there kinds s.objects.places lay.middles lay.finals old s.count j q)
        ∙ sym (ap (untouched share) there ∙ untouched_are s old r.is_ready.part r.is_ready.few) in
        let pack = picked_end of_payload lay.finals (payload_there kinds s.objects.places lay.middles lay.finals old s.count long)
        ∙ sym (ap (payload_finals share) there ∙ l.spread_are) in
        let lift = picked_end of_overflow lay.finals (overflow_there kinds s.objects.places lay.middles lay.finals old s.count long)
        ∙ sym (ap (overflow_finals share) there ∙ l.settled_are) in
        rw (now_is, ← listed_now) (sym (rw (plan_moves, ← listed_now) at
        (plan_sorted g kinds s.objects.names ends s.objects.lens (keys_of kinds s.objects.lens s.count) s.count
        (rw plan_moves listed_now) stay pack lift (λ k b. few k) (λ k b. key_at kinds s.objects.lens s.count k r.is_ready.few b))))

  -- THE VALUE at the flush's end
  pub settled_end : (l : Layout) (r : Regions) (os : Columns) → l ≡ layout_in s old → r ≡ emptied s.regions s.flush.boundary l.sizes
      → objects os s.count ≡ by_place (places_now share (model_of s) (flush_of s))
      → model_of (resting_in s r os) ≡ settled_store share (model_of s) (flush_of s)
  unfolding model_of
  settled_end l r os d h k = rests_in s r os ∙ rw (h, d, k, regions_end)
