-- What a value stands for after an edit: at rest with other regions or objects, and before the first move of a flush.
-- Each is the model of its case, with the model of the value before it written out.
use mathlib.Core.Path.{◌≡◌, refl, ◌∙◌}
use mathlib.Core.Bool.{Bool, true, false, cond}
use mathlib.Core.List.{List, [], ◌∷◌, ◌++◌}
use Prim.Native.Nat.{ℕ, ◌+◌, ◌-◌, ◌≤◌, ◌<◌}
use native.Mathlib.Omega.{arith}
use lib.Dec.{ltb}
use lib.ListN.{length, get_or}
use borrow.Author.Tests.{ne_eqb}
use Rattle.rules.specs.House.{share}
use Rattle.rules.specs.Classes.{Obj, class_of, insert_by_place}
use Rattle.rules.specs.Regions.{top_class, buffer_start, footprint}
use Rattle.rules.specs.Boundary.{boundary_of}
use Rattle.rules.specs.Placing.{room_for, entered, raised}
use Rattle.rules.specs.Flush.{plan, at_wait}
use Rattle.rules.specs.Stores as stores
use Rattle.rules.specs.Calls.{storing_at, grown, insert_above, insert_into, insert_flush, boundary_for, room_in, inserted}
use Rattle.rules.specs.declared.Answer.TheVariants.{Done}
use Rattle.rules.proofs.Runs.{listed_length}
use Rattle.edits.specs.declared.Columns.{Columns}
use Rattle.edits.specs.Edits.{object, objects}
use Rattle.leaves.specs.declared.regions.Regions.{Regions}
use Rattle.state.specs.declared.State.{State}
use Rattle.state.specs.Model.{sizes_in, regions_in, rests, flush_of, model_of}
use Rattle.state.specs.Tests.{start_at}
use Rattle.state.proofs.Cases.{none_listed, model_rest, model_drop, model_store}
use Rattle.requests.specs.Requests.{in_flush, flush_from, with_due, storing_in}
use Rattle.requests.proofs.Columns.{appended, last_object_lem}

resting_true : (b : Bool) (f : stores.Flush) → cond b stores.resting (stores.flushing f) ≡ stores.resting → b ≡ true
resting_true true f e = refl
resting_true false f e = let z : ◌≡◌ {A = ℕ} 0 1 = cc in absurd (omega arith)

-- a value that stands for a store at rest holds no flush
pub stage_rests : (s : State) → (model_of s).stage ≡ stores.resting → rests s.flush ≡ true
unfolding model_of
stage_rests s e = resting_true (rests s.flush) (flush_of s) e

-- a flush with a boundary runs
flush_runs : (b deleted : ℕ) (due : Bool) → 1 ≤ b → rests (flush_from b deleted due) ≡ false
unfolding rests
flush_runs b deleted due l = rw (ne_eqb b 0 (λ z. omega arith))

-- ITS REGIONS, told of the value
module _ (s : State) where
  pub boundary_in_lem : (len : ℕ) → boundary_for (model_of s) len ≡ boundary_of s.regions.useds s.regions.lowests (class_of len)
  unfolding model_of
  boundary_in_lem len = refl

  pub room_in_lem : (len : ℕ) → room_in share (model_of s) len ≡ room_for share (sizes_in s.regions) s.regions.useds (class_of len) len
  unfolding model_of
  room_in_lem len = refl

  -- the ways of an insert
  pub above_placed : (name : ℕ) (page : List ℕ)
      → storing_at (grown (model_of s) (raised (regions_in s.regions) (class_of (length page)) (length page))
      (object name (footprint share (sizes_in s.regions)) (length page))) Done (footprint share (sizes_in s.regions)) page
      ≡ insert_above share (model_of s) name page
  unfolding model_of insert_above
  above_placed name page = refl

  pub into_placed : (name : ℕ) (page : List ℕ) (j : ℕ) → let at = buffer_start share (sizes_in s.regions) j + get_or s.regions.useds j 0 in
      storing_at (grown (model_of s) (entered (regions_in s.regions) j (class_of (length page)) (length page)) (object name at (length page))) Done at page
      ≡ insert_into share (model_of s) name page j
  unfolding model_of insert_into
  into_placed name page j = refl

  pub goes_above : (name : ℕ) (page : List ℕ) → ltb (top_class (sizes_in s.regions)) (class_of (length page)) ≡ true
      → inserted share (model_of s) name page ≡ insert_above share (model_of s) name page
  unfolding model_of inserted
  goes_above name page e = rw e

  pub goes_by_flush : (name : ℕ) (page : List ℕ) → ltb (top_class (sizes_in s.regions)) (class_of (length page)) ≡ false
      → 0 ≡ room_in share (model_of s) (length page)
      → inserted share (model_of s) name page ≡ insert_flush share (model_of s) name page
  unfolding model_of inserted
  goes_by_flush name page e none = rw (e, ← none)

  pub goes_into : (name : ℕ) (page : List ℕ) (j : ℕ) → ltb (top_class (sizes_in s.regions)) (class_of (length page)) ≡ false
      → j ≡ room_in share (model_of s) (length page) → 0 < j
      → inserted share (model_of s) name page ≡ insert_into share (model_of s) name page j
  unfolding model_of inserted
  goes_into name page j e room some = rw (e, ← room, ne_eqb j 0 (λ z. omega arith))

module _ (s : State) (e : rests s.flush ≡ true) where
  -- at rest, with other regions and objects
  pub rest_model : (t : Regions) (cs : Columns) (n : ℕ)
      → model_of (record { area = s.area; regions = t; objects = cs; count = n; flush = s.flush })
      ≡ stores.resting_at (model_of s).area (regions_in t) (objects cs n)
  rest_model t cs n = model_rest (record { area = s.area; regions = t; objects = cs; count = n; flush = s.flush }) e ∙ rw (model_rest s e)

  -- with one object more
  pub stored_model : (t : Regions) (cs : Columns) (n : ℕ) (o : Obj) → objects cs n ≡ insert_by_place o (objects s.objects s.count)
      → model_of (record { area = s.area; regions = t; objects = cs; count = n; flush = s.flush }) ≡ grown (model_of s) (regions_in t) o
  stored_model t cs n o h = rest_model t cs n ∙ rw (h, model_rest s e)

  -- before the first move of a flush that deletes
  pub drop_model : (b len : ℕ) → 1 ≤ b → 0 < len
      → model_of (in_flush s (flush_from b len (at_wait (plan share (start_at (in_flush s (flush_from b len false)) s.count)))))
      ≡ stores.begun share (model_of s) (stores.dropping len) b
  drop_model b len least some =
      let due = at_wait (plan share (start_at (in_flush s (flush_from b len false)) s.count)) in
      model_drop (in_flush s (flush_from b len due)) (flush_runs b len due least) (ne_eqb len 0 (λ z. omega arith))
      ∙ rw (model_rest s e, none_listed s.objects.names s.objects.places s.objects.lens s.count)

  -- of one that stores: its start,
  pub store_start : (cs : Columns) (b : ℕ) (o : Obj) → objects cs (s.count + 1) ≡ objects s.objects s.count ++ (o ∷ [])
      → start_at (storing_in s cs b) s.count ≡ stores.start_by (regions_in s.regions) (objects s.objects s.count) (stores.storing o) b
  store_start cs b o h =
      let a = appended cs s.count (objects s.objects s.count) o
      (listed_length s.objects.names s.objects.places s.objects.lens 0 s.count) h in
      rw (a.before, a.last)

  -- and its store
  pub store_model : (cs : Columns) (b : ℕ) (o : Obj) → 1 ≤ b → objects cs (s.count + 1) ≡ objects s.objects s.count ++ (o ∷ [])
      → model_of (with_due (storing_in s cs b) (at_wait (plan share (start_at (storing_in s cs b) s.count))))
      ≡ stores.begun share (model_of s) (stores.storing o) b
  store_model cs b o least h =
      let a = appended cs s.count (objects s.objects s.count) o
      (listed_length s.objects.names s.objects.places s.objects.lens 0 s.count) h in
      let due = at_wait (plan share (start_at (storing_in s cs b) s.count)) in
      let n : s.count + 1 - 1 ≡ s.count = omega arith in
      model_store (with_due (storing_in s cs b) due) (flush_runs b 0 due least) refl (ne_eqb (s.count + 1) 0 (λ z. omega arith))
      ∙ rw (model_rest s e, n, a.before, a.last, last_object_lem cs s.count o a.last)
