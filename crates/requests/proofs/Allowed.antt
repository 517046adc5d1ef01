-- What the tests of a call let through, told of the value: it is at rest, its columns hold the objects, and its regions lie in the area.
-- The tests tell it of the store that the value stands for, which is written out.
use mathlib.Core.Path.{◌≡◌, refl, sym, ap, ◌∙◌, subst}
use mathlib.Core.Bool.{true}
use mathlib.Core.List.{List, [], ◌∷◌, ◌++◌}
use Prim.Native.Nat.{ℕ, ◌+◌, ◌≤◌, ◌<◌}
use native.Mathlib.Omega.{arith}
use lib.ListN.{length, take, get_or}
use borrow.Author.Tests.{ltb-true, lt-ltb}
use Rattle.rules.specs.House.{share, classes, longest, most_area, most_name, most_objects}
use Rattle.rules.specs.Classes.{Obj, class_of, volume}
use Rattle.rules.specs.Regions.{buffer_start, footprint}
use Rattle.rules.specs.Placing.{room_for}
use Rattle.rules.specs.Stores.{Store}
use Rattle.rules.specs.Answers.{first, accepted}
use Rattle.rules.specs.Calls.{Outcome, test, running, named, others, store_tests, name_tests, inserted, insert_tests, insert_of, deleted, delete_of}
use Rattle.rules.specs.declared.Answer.TheVariants.{Done, Busy}
use Rattle.rules.proofs.Lists.{In}
use Rattle.rules.proofs.Geometry.{region_ends}
use Rattle.rules.proofs.Limits.{Room, room_law}
use Rattle.rules.proofs.Quota.{footprint_fits}
use Rattle.rules.proofs.RestKept.{named_one}
use Rattle.rules.proofs.SoundKept.{AtRest, MayInsert}
use Rattle.rules.proofs.Accepted.{MayStore, insert_passes, MayDelete, delete_passes}
use Rattle.rules.proofs.Writes.{EndsIn}
use Rattle.rules.proofs.StepWithin.{insert_writes}
use Rattle.rules.proofs.Runs.{listed_length}
use Rattle.rules.proofs.ClassLaws.{class_bounds}
use Rattle.leaves.specs.Room.{some_room}
use Rattle.leaves.proofs.Room.{room_some}
use Rattle.std.specs.Prelude.{Option, Some}
use Rattle.std.specs.Option.{IsSome}
use Rattle.edits.specs.Edits.{object, objects, between, find_in, found_in}
use Rattle.edits.proofs.Finds.{found_name, found_named, found_held, found_some, found_at, without_others}
use Rattle.leaves.specs.declared.regions.Regions as declared
use Rattle.state.specs.declared.State.{State}
use Rattle.state.specs.Model.{sizes_in, regions_in, rests, model_of}
use Rattle.state.proofs.Cases.{model_rest}
use Rattle.requests.specs.Requests.{Passes}
use Rattle.requests.proofs.Denoted.{stage_rests}

-- at rest the last region ends in the area
pub footprint_held : {a : ℕ} (t : declared.Regions) {os : List Obj} → AtRest share a (regions_in t) os → footprint share (sizes_in t) ≤ most_area
footprint_held {a} t {os} r =
    omega (
      arith,
      r.limits.area_most,
      footprint_fits share a (regions_in t) os (omega arith) (omega (arith, r.limits.area_least)) r.rest r.limits.quota,
    )

-- the space that a buffer with room has for n bytes
pub record Space (t : declared.Regions) (n j : ℕ) : Type 0 where
  pub within : j ≤ classes
  pub starts : buffer_start share (sizes_in t) j + get_or t.useds j 0 ≤ 16777216
  pub fills : get_or t.useds j 0 + n ≤ 16777216

pub space : {a : ℕ} (t : declared.Regions) {os : List Obj} → AtRest share a (regions_in t) os → (n j : ℕ)
    → j ≡ room_for share (sizes_in t) t.useds (class_of n) n → 0 < j → Space t n j
space {a} t {os} r n j e some =
    let room : Room share (sizes_in t) t.useds n (class_of n) classes j =
    subst (Room share (sizes_in t) t.useds n (class_of n) classes) (sym e) (room_law share (sizes_in t) t.useds (class_of n) n (λ z. omega (arith, e))) in
    let ends = region_ends share (sizes_in t) j some room.within in
    let held = footprint_held t r in
    record { within = room.within; starts = omega (arith, room.fits); fills = omega (arith, room.fits) }

-- the buffer found is the rules', and none of them is 0
pub found_room : (t : declared.Regions) (n j : ℕ) → 1 ≤ n → n ≤ longest → some_room share (sizes_in t) t.useds (class_of n) n ≡ Some j
    → (j ≡ room_for share (sizes_in t) t.useds (class_of n) n) × (0 < j)
found_room t n j a b e =
    let r = room_some share (sizes_in t) t.useds n (class_of n) j e in
    (r.0, omega (arith, r.1, (class_bounds n a b).0))

-- INSERT
module _ (s : State) (name : ℕ) (page : List ℕ) (small : name ≤ most_name) (ok : Passes s name page) where
  passed : MayStore (model_of s) s.area name page
  passed = insert_passes (model_of s) s.area name page small (ap accepted ok)

  pub insert_rests : rests s.flush ≡ true
  insert_rests = stage_rests s passed.rests

  pub insert_held : AtRest share s.area (regions_in s.regions) (objects s.objects s.count)
  insert_held = subst (λ (w : Store). AtRest share w.area w.regions w.objects) (model_rest s insert_rests) passed.at_rest

  pub insert_may : MayInsert share s.area (objects s.objects s.count) name page
  insert_may = subst (λ (w : Store). MayInsert share w.area w.objects name page) (model_rest s insert_rests) passed.may

  pub insert_few : s.count < most_objects
  insert_few = omega (arith, insert_may.few, listed_length s.objects.names s.objects.places s.objects.lens 0 s.count)

-- the area lent is the store's own, and what an insert writes ends in it
module _ (s : State) (lent name : ℕ) (page : List ℕ) (small : name ≤ most_name) (ok : first (insert_tests (model_of s) lent name page) ≡ Done) where
  pub insert_done : insert_of (model_of s) lent name page ≡ inserted share (model_of s) name page
  unfolding insert_of
  insert_done = rw ok

  pub insert_own : lent ≡ s.area
  unfolding model_of
  insert_own = (insert_passes (model_of s) lent name page small (ap accepted ok)).own

  pub insert_ends : (o : Outcome) → o ≡ inserted share (model_of s) name page → EndsIn lent o.write
  insert_ends o e =
      rw e (rw ((insert_passes (model_of s) lent name page small (ap accepted ok)).own, ← insert_done) (insert_writes (model_of s) lent name page small))

same_object : (x y : Obj) → ◌≡◌ {A = List Obj} (x ∷ []) (y ∷ []) → x ≡ y
same_object x y e = cc

-- DELETE: the object at the index found
pub record Gone (s : State) (name i : ℕ) : Type 0 where
  pub inside : i < s.count
  pub few : s.count ≤ most_objects
  pub at_rest : AtRest share s.area (regions_in s.regions) (objects s.objects s.count)
  pub among : In (object name (get_or s.objects.places i 0) (get_or s.objects.lens i 0)) (objects s.objects s.count)
  pub only : named name (objects s.objects s.count) ≡ object name (get_or s.objects.places i 0) (get_or s.objects.lens i 0) ∷ []
  pub left : objects s.objects i ++ between s.objects (i + 1) s.count ≡ others name (objects s.objects s.count)

module _ (s : State) (name : ℕ)
    (ok : first (store_tests (model_of s) (model_of s).area ++ (test (running (model_of s).stage) Busy ∷ name_tests (model_of s) name)) ≡ Done) where
  allowed : MayDelete (model_of s) name
  allowed = delete_passes (model_of s) name (ap accepted ok)

  pub delete_rests : rests s.flush ≡ true
  delete_rests = stage_rests s allowed.rests

  pub delete_done : delete_of (model_of s) name ≡ deleted share (model_of s) name (volume (named name (model_of s).objects))
  unfolding delete_of
  delete_done = rw ok

  pub gone : (i : ℕ) → i ≡ find_in s.objects.names s.count name → Gone s name i
  gone i e =
      let ns = s.objects.names in
      let ps = s.objects.places in
      let ls = s.objects.lens in
      let n = s.count in
      let m = subst (λ (w : Store). MayDelete w name) (model_rest s delete_rests) allowed in
      let o = m.found.object in
      let one : named name (objects s.objects n) ≡ o ∷ [] = subst (λ (k : ℕ). named k (objects s.objects n) ≡ o ∷ []) m.found.called
      (named_one o (objects s.objects n) m.at_rest.limits.differ m.found.among) in
      let in-n : i < n = rw e (ltb-true _ _ (sym (found_held ns ps ls n name) ∙ rw one)) in
      let called : get_or ns i 0 ≡ name = rw e (found_name ns ps ls n name (rw e at in-n)) in
      let only : named name (objects s.objects n) ≡ object name (get_or ps i 0) (get_or ls i 0) ∷ [] = found_named ns ps ls n name (rw e at in-n)
      m.at_rest.limits.differ ∙ ap (λ (k : ℕ). object (get_or ns k 0) (get_or ps k 0) (get_or ls k 0) ∷ []) (sym e) ∙ rw called in
      record {
        inside = in-n;
        few = omega (arith, m.at_rest.limits.few, listed_length ns ps ls 0 n);
        at_rest = m.at_rest;
        among = rw (same_object _ o (sym only ∙ one)) m.found.among;
        only = only;
        left = without_others ns ps ls n i in-n m.at_rest.limits.differ ∙ rw called;
      }

  -- the search of the names finds it
  module _ (size : length s.objects.names ≡ most_objects) where
    pub sought : IsSome (found_in (take s.count s.objects.names) name)
    sought =
        let o = s.objects in
        let g = gone _ refl in
        found_some o.names o.places o.lens s.count (omega (arith, g.few)) name ∙ lt-ltb (find_in o.names s.count name) s.count g.inside

    pub gone_at : {found : Option ℕ} {i : ℕ} → found ≡ found_in (take s.count s.objects.names) name → found ≡ Some i → Gone s name i
    gone_at {found} {i} e f =
        let o = s.objects in
        gone i (found_at o.names o.places o.lens s.count (omega (arith, (gone _ refl).few)) name i (sym e ∙ f)).1
