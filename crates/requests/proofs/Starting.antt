-- A flush that a request begins is ready for its layout; and so what an insert by a flush, and a delete, come to.
-- The rules' start of the request bounds the boundary and the regions; the layout's place for a new object is the rules' place.
use mathlib.Core.Path.{◌≡◌, sym, ap, ◌∙◌, subst}
use mathlib.Core.Bool.{true, false}
use mathlib.Core.List.{List, [], ◌∷◌, append-nil}
use Prim.Native.Nat.{ℕ, suc, ◌-◌, ◌≤◌, ◌<◌}
use native.Mathlib.Omega.{arith}
use lib.ListN.{length, get_or}
use borrow.Author.Tests.{ne_eqb}
use Rattle.rules.specs.House.{share, classes, longest, most_area, most_name, most_objects}
use Rattle.rules.specs.Classes.{class_of, volume}
use Rattle.rules.specs.Boundary.{boundary_of}
use Rattle.rules.specs.Placing.{room_for, entered}
use Rattle.rules.specs.Flush.{new_place, plan, ahead, at_wait}
use Rattle.rules.specs.Stores.{storing, dropping, resting_at, start_by, begun}
use Rattle.rules.specs.Calls.{answering, storing_at, named, others, insert_flush, boundary_for, deleted, delete_of}
use Rattle.rules.specs.declared.Answer.TheVariants.{Done, Running}
use Rattle.rules.proofs.Lists.{All, all_map, all_append, in_all, volume_append}
use Rattle.rules.proofs.Facts.{Fits}
use Rattle.rules.proofs.Limits.{limits_less}
use Rattle.rules.proofs.RestKept.{gone_rest}
use Rattle.rules.proofs.BegunKept.{gone_volume}
use Rattle.rules.proofs.Starts.{Starts, request_starts}
use Rattle.edits.specs.Edits.{object, objects}
use Rattle.flush_laws.proofs.Laid.{plan_laid}
use Rattle.plan.specs.declared.Ahead.{Ahead}
use Rattle.plan.specs.Turns.{run_ends}
use Rattle.flush_laws.proofs.Rules.{at_wait_lem}
use Rattle.state.specs.declared.State.{State}
use Rattle.state.specs.Model.{sizes_in, regions_in, rests, model_of}
use Rattle.state.specs.Tests.{Ready, start_at, layout_in, ahead_by}
use Rattle.state.proofs.Cases.{none_listed, model_rest}
use Rattle.rules.proofs.Runs.{listed_at}
use Rattle.state.proofs.Ready.{sizes_small, footprint_small, laid_in, short_in}
use Rattle.requests.specs.Requests.{Passes, with_objects, in_flush, flush_from, with_due, storing_in, Storing, Without}
use Rattle.requests.proofs.Denoted.{boundary_in_lem, rest_model, store_start, store_model}
use Rattle.requests.proofs.Allowed.{insert_rests, insert_held, insert_may, insert_few, Gone}

-- READY: by the rules' start
ready : (s : State) (old lost : ℕ) → old ≤ s.count → s.count ≤ most_objects → length s.regions.sizes ≡ suc classes → s.area ≤ most_area
    → All (λ o. o.len ≤ longest) (objects s.objects s.count) → Starts share s.area lost (start_at s old) → Ready s old
unfolding sizes_in
ready s old lost part few sized most short starts = record {
  part = part;
  few = few;
  least = starts.boundary_least;
  most = starts.boundary_most;
  short =
      λ j l. listed_at (λ o. o.len ≤ longest) s.objects.names s.objects.places s.objects.lens s.count 0 short j (omega arith) (omega arith);
  small = sizes_small s.regions.sizes sized
      (footprint_small s.area (regions_in s.regions) (objects s.objects old) lost most starts.rest starts.old_quota);
}

-- A CHECKPOINT IS DUE before the first move where the layout's turns have it
pub begun_due : (s : State) (old : ℕ) → Ready s old → (a : Ahead) → a ≡ ahead_by s (layout_in s old) old 0
    → run_ends a.total 0 a.next ≡ at_wait (plan share (start_at s old))
unfolding ahead
begun_due s old r a e =
    let l = layout_in s old in
    rw e (sym (ap at_wait (plan_laid (laid_in s old r))
    ∙ at_wait_lem l.kinds s.objects.names s.objects.places l.middles l.finals s.objects.lens l.limit old s.count (short_in s old) 0))

-- INSERT
module _ (s : State) (name : ℕ) (page : List ℕ) (small : name ≤ most_name) (ok : Passes s name page) where
  abbrev bound : ℕ
  bound = boundary_of s.regions.useds s.regions.lowests (class_of (length page))

  storing_starts : (at : ℕ)
      → Starts share s.area 0 (start_by (regions_in s.regions) (objects s.objects s.count) (storing (object name at (length page))) bound)
  unfolding volume
  storing_starts at =
      let os = objects s.objects s.count in
      let o = object name at (length page) in
      let r = insert_held s name page small ok in
      let m = insert_may s name page small ok in
      request_starts share s.area (regions_in s.regions) os (storing o) r.rest r.limits.fits (m.some_length, m.length_fits)
      (omega (arith, m.quota))
      (omega (arith, m.quota, volume_append os (o ∷ [])))

  start_of : (at : ℕ) (t : State) → Storing s name at (length page) bound t
      → start_at t s.count ≡ start_by (regions_in s.regions) (objects s.objects s.count) (storing (object name at (length page))) bound
  start_of at t w =
      ap (λ (x : State). start_at x s.count) w.value_is
      ∙ store_start s (insert_rests s name page small ok) t.objects bound (object name at (length page)) w.objects_are

  pub storing_ready : length s.regions.sizes ≡ suc classes → (at : ℕ) (t : State) → Storing s name at (length page) bound t → Ready t s.count
  storing_ready sized at t w =
      let os = objects s.objects s.count in
      let o = object name at (length page) in
      let r = insert_held s name page small ok in
      let m = insert_may s name page small ok in
      let short = all_append (λ x. x.len ≤ longest) os (o ∷ []) (all_map (λ x f. f.length_fits) os r.limits.fits) (m.length_fits, tt) in
      subst (λ (x : State). Ready x s.count) (sym w.value_is)
      (ready (storing_in s t.objects bound) s.count 0 (omega arith) (omega (arith, insert_few s name page small ok)) sized r.limits.area_most
      (rw w.objects_are short)
      (rw (store_start s (insert_rests s name page small ok) t.objects bound o w.objects_are) (storing_starts at)))

  -- the layout's place for the new object is the rules', wherever the object lies yet
  next_place : length s.regions.sizes ≡ suc classes → (t : State) → Storing s name 0 (length page) bound t
      → (layout_in t s.count).next
      ≡ new_place share (start_by (regions_in s.regions) (objects s.objects s.count) (storing (object name 0 (length page))) bound)
  next_place sized t w = sym (laid_in t s.count (storing_ready sized 0 t w)).next_is ∙ ap (new_place share) (start_of 0 t w)

  -- AN INSERT BY A FLUSH
  pub flush_placed : length s.regions.sizes ≡ suc classes → (first t : State) → Storing s name 0 (length page) bound first
      → Storing s name (layout_in first s.count).next (length page) bound t
      → storing_at (model_of (with_due t (at_wait (plan share (start_at t s.count))))) Running (layout_in first s.count).next page
      ≡ insert_flush share (model_of s) name page
  unfolding insert_flush
  flush_placed sized first t v w =
      let e = insert_rests s name page small ok in
      let model = ap (λ (x : State). model_of (with_due x (at_wait (plan share (start_at x s.count))))) w.value_is
      ∙ store_model s e t.objects bound (object name (layout_in first s.count).next (length page)) (storing_starts 0).boundary_least
      w.objects_are in
      rw (model, next_place sized first v, model_rest s e)

-- DELETE
module _ (s : State) (name i : ℕ) (g : Gone s name i) where
  abbrev lost : ℕ
  lost = get_or s.objects.lens i 0

  pub lost_fits : (1 ≤ lost) × (lost ≤ longest)
  lost_fits = let f = in_all Fits (objects s.objects s.count) g.at_rest.limits.fits _ g.among in (f.some_length, f.length_fits)

  pub drop_ready : length s.regions.sizes ≡ suc classes → (t : State) → Without s i t
      → Ready (in_flush t (flush_from (boundary_for (model_of t) lost) lost false)) t.count
  drop_ready sized t w =
      let os = objects s.objects s.count in
      let o = object name (get_or s.objects.places i 0) lost in
      let b = boundary_of s.regions.useds s.regions.lowests (class_of lost) in
      let r = g.at_rest in
      let left = w.objects_are ∙ g.left in
      let less = limits_less share s.area os name r.limits in
      let n = s.count - 1 in
      let starts = request_starts share s.area (regions_in s.regions) (others name os) (dropping lost)
      (gone_rest share (regions_in s.regions) os o r.rest r.limits.differ g.among) less.fits lost_fits
      (omega (arith, gone_volume os o r.limits.differ g.among, r.limits.quota)) (rw append-nil less.quota) in
      subst (λ (x : State). Ready (in_flush x (flush_from (boundary_for (model_of x) lost) lost false)) x.count) (sym w.value_is)
      (rw (boundary_in_lem (with_objects s t.objects n) lost)
      (ready (in_flush (with_objects s t.objects n) (flush_from b lost false)) n lost (omega arith) (omega (arith, g.few)) sized r.limits.area_most
      (rw left (all_map (λ x f. f.length_fits) (others name os) less.fits))
      (rw (left, none_listed t.objects.names t.objects.places t.objects.lens n) starts)))

  module _ (e : rests s.flush ≡ true) (done : delete_of (model_of s) name ≡ deleted share (model_of s) name (volume (named name (model_of s).objects)))
      (t : State) (w : Without s i t) where
    gone_model : model_of t ≡ resting_at s.area (regions_in s.regions) (others name (objects s.objects s.count))
    gone_model = ap model_of w.value_is ∙ rest_model s e s.regions t.objects (s.count - 1) ∙ rw (w.objects_are ∙ g.left, model_rest s e)

    lost_is : volume (named name (objects s.objects s.count)) ≡ lost
    unfolding volume
    lost_is = ap volume g.only ∙ omega arith

    -- by a flush
    pub drop_done : 0 ≡ room_for share (sizes_in s.regions) s.regions.useds (class_of lost) lost
        → answering (begun share (model_of t) (dropping lost) (boundary_for (model_of t) lost)) Running ≡ delete_of (model_of s) name
    unfolding deleted
    drop_done none = sym (done ∙ rw (model_rest s e, lost_is, ← none, gone_model))

    -- with a record
    pub note_done : (j : ℕ) → 0 < j → j ≡ room_for share (sizes_in s.regions) s.regions.useds (class_of lost) lost
        → answering (resting_at (model_of t).area (entered (model_of t).regions j (class_of lost) lost) (model_of t).objects) Done ≡ delete_of (model_of s) name
    unfolding deleted
    note_done j some room = sym (done ∙ rw (model_rest s e, lost_is, ← room, ne_eqb j 0 (λ z. omega arith), gone_model))
