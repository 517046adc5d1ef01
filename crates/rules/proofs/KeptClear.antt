-- Law 10 over the calls: at rest no byte of a page held, or in the last map kept, is unused. Requests only lessen what is unused; a flush ends with a
-- confirmation, and the map that it keeps is of the pages held. What an accepted insert writes was unused, so it meets none of these pages.
use mathlib.Core.Path.{◌≡◌, refl, ap}
use mathlib.Core.Logic.{inr}
use mathlib.Core.Bool.{true, false, cond}
use mathlib.Core.List.{List, [], ◌∷◌}
use Prim.Native.Nat.{ℕ, ◌+◌, ◌-◌, ◌≤◌, ◌<◌}
use native.Mathlib.Omega.{arith}
use native.Mathlib.Nat.{le-max_left}
use lib.ListN.{length, take}
use lib.Dec.{ltb}
use borrow.Author.Tests.{ltb-true, ltb-false}
use Rattle.rules.specs.House.{share, most_name}
use Rattle.rules.specs.Classes.{Obj, class_of, end_of, insert_by_place, by_place}
use Rattle.rules.specs.Regions.{Regions, footprint}
use Rattle.rules.specs.Flush.{rebound, overflow_start, new_footprint}
use Rattle.rules.specs.Stores.{Store, resting, flushing, Flush, resting_at, start_by, start_in, places_now, settled_store, storing}
use Rattle.rules.specs.Sound.{sound}
use Rattle.rules.specs.Calls.{Write, running, object, insert_above, insert_into, insert_flush, boundary_for, inserted, insert_of, deleted, confirm_in}
use Rattle.rules.specs.History.{Call, insert, delete, step, confirm, outcome_of, Named}
use Rattle.rules.proofs.Lists.{clash, All}
use Rattle.rules.proofs.ClassLaws.{class_bounds}
use Rattle.rules.proofs.Clear.{Unused, Clear, entered_unused, entry_unused, raised_unused, stays_clear}
use Rattle.rules.proofs.Limits.{inserted_cases, deleted_cases}
use Rattle.rules.proofs.RestKept.{all_clear}
use Rattle.rules.proofs.SoundKept.{MayInsert}
use Rattle.rules.proofs.Accepted.{sound_resting, insert_cases, delete_cases, step_cases, confirm_cases}
use Rattle.rules.proofs.ConfirmKept.{confirm_sound}

-- OF THE PAGES HELD at rest no byte is unused
pub sound_clear : (q : ℕ) (s : Store) → s.stage ≡ resting → sound q s ≡ true → All (Clear q s.regions) s.objects
sound_clear q s rests holds = let r = sound_resting q s rests holds in all_clear q s.regions s.objects 0 r.rest r.limits.fits

-- a page with no unused byte ends by F
pub clear_ends : (q : ℕ) (t : Regions) (o : Obj) → 1 ≤ o.len → Clear q t o → end_of o ≤ footprint q t.sizes
clear_ends q t o some clear =
    elim (ltb (footprint q t.sizes) (end_of o)) as (λ b. ltb (footprint q t.sizes) (end_of o) ≡ b → end_of o ≤ footprint q t.sizes) [
      | true ↦ λ e. let l = ltb-true (footprint q t.sizes) (end_of o) e in absurd (clear (end_of o - 1) (omega arith) (omega arith) (inr (omega arith)))
      | false ↦ λ e. ltb-false (footprint q t.sizes) (end_of o) e
    ] refl

-- and so do all such pages
pub all_end : (q : ℕ) (t : Regions) (os : List Obj) → All (λ o. 1 ≤ o.len) os → All (Clear q t) os
    → All (λ o. end_of o ≤ footprint q t.sizes) os
all_end q t [] some clear = tt
all_end q t (o ∷ os) some clear = (clear_ends q t o some.0 clear.0, all_end q t os some.1 clear.1)

-- what holds of all objects with one more among them holds of that one and of all
pub uninsert_all : (P : Obj → Type 0) (o : Obj) (os : List Obj) → All P (insert_by_place o os) → P o × All P os
unfolding insert_by_place
uninsert_all P o [] h = h
uninsert_all P o (x ∷ xs) h = (elim (ltb o.at x.at) as (λ b. All P (cond b (o ∷ x ∷ xs) (x ∷ insert_by_place o xs)) → P o × (P x × All P xs)) [
  | true ↦ λ k. (k.0, k.1)
  | false ↦ λ k. let r = uninsert_all P o xs k.1 in (r.0, (k.0, r.1))
]) h

-- what holds of all objects in place order holds of all
pub unsort_all : (P : Obj → Type 0) (os : List Obj) → All P (by_place os) → All P os
unfolding by_place
unsort_all P [] h = tt
unsort_all P (o ∷ os) h = let k = uninsert_all P o (by_place os) h in (k.0, unsort_all P os k.1)

-- an accepted insert leaves pages clear, whichever way it goes
pub inserted_clear : (q a : ℕ) (t : Regions) (os : List Obj) (n : ℕ) (page : List ℕ) (kept : List Obj) → MayInsert q a os n page
    → All (Clear q t) kept
    → All (Clear q (inserted q (resting_at a t os) n page).store.regions) kept
unfolding insert_above insert_into insert_flush
inserted_clear q a t os n page kept may h =
    let c = class_bounds (length page) may.some_length may.length_fits in
    inserted_cases (λ o. All (Clear q o.store.regions) kept) q (resting_at a t os) n page
    (λ top. stays_clear q t _ (raised_unused q t (class_of (length page)) (length page) c.0 c.1 top) kept h)
    (λ j r. stays_clear q t _ (entered_unused q t j (class_of (length page)) (length page) r.within) kept h)
    h

-- so does an accepted delete
pub deleted_clear : (q : ℕ) (s : Store) (n len : ℕ) (kept : List Obj) → All (Clear q s.regions) kept
    → All (Clear q (deleted q s n len).store.regions) kept
deleted_clear q s n len kept h = deleted_cases (λ o. All (Clear q o.store.regions) kept) q s n len
    (λ j r. stays_clear q s.regions _ (entered_unused q s.regions j (class_of len) len r.within) kept h)
    h

-- where a confirmation ends the flush, no byte of the places now is unused
pub settled_clear : (q : ℕ) (s : Store) (f : Flush) → 3 ≤ q → s.stage ≡ flushing f → sound q s ≡ true
    → confirm_in q s (flushing f) ≡ settled_store q s f
    → All (Clear q (rebound (start_in s f))) (places_now q s f)
settled_clear q s f three runs holds ends =
    unsort_all (Clear q (rebound (start_in s f))) (places_now q s f)
    (sound_clear q (settled_store q s f) refl (rw ends at (confirm_sound q s f three runs holds)))

-- A CALL AT REST leaves clear what was clear, also where it begins a flush
pub begun_clear : (s : Store) (area : List ℕ) (kept : List Obj) (c : Call) → Named c → s.stage ≡ resting → All (Clear share s.regions) kept
    → All (Clear share (outcome_of s area c).store.regions) kept
begun_clear s area kept (insert lent n page) small rests h = insert_cases (λ o. All (Clear share o.store.regions) kept) s (λ a e. h)
    (length (take lent area)) n page small (λ p.
    inserted_clear share s.area s.regions s.objects n page kept p.may h)
begun_clear s area kept (delete n) small rests h = delete_cases (λ o. All (Clear share o.store.regions) kept) s (λ a e. h) n (λ p.
    deleted_clear share (resting_at s.area s.regions s.objects) p.found.object.name p.found.object.len kept h)
begun_clear s area kept (step lent) small rests h = step_cases (λ o. All (Clear share o.store.regions) kept) s (λ a e. h) (take lent area) h
    (λ f runs k own law. h)
begun_clear s area kept (confirm room) small rests h = confirm_cases (λ o. All (Clear share o.store.regions) kept) s (λ a e. h) room (λ r k. h)
    (λ f runs k. absurd (clash (ap running runs) (ap running rests)))

-- every byte of a write was unused
abbrev pub OnUnused : ℕ → Regions → Write → Type 0
OnUnused q t w = (x : ℕ) → w.at ≤ x → x < w.at + length w.bytes → Unused q t x

-- WHAT AN INSERT WRITES was unused
pub inserted_unused : (q a : ℕ) (t : Regions) (os : List Obj) (n : ℕ) (page : List ℕ) → MayInsert q a os n page
    → OnUnused q t (inserted q (resting_at a t os) n page).write
unfolding insert_above insert_into insert_flush overflow_start
inserted_unused q a t os n page may = inserted_cases (λ o. OnUnused q t o.write) q (resting_at a t os) n page
    (λ top x l m. inr l)
    (λ j r x l m. entry_unused q t j (length page) (omega (arith, r.up, class_bounds (length page) may.some_length may.length_fits)) r.within
    r.fits x (omega arith) (omega arith))
    (λ x l m. inr (omega (
      arith,
      le-max_left (footprint q t.sizes) (new_footprint q (start_by t os (storing (object n 0 page)) (boundary_for (resting_at a t os) (length page)))),
    )))

pub insert_unused : (s : Store) (lent n : ℕ) (page : List ℕ) → n ≤ most_name → OnUnused share s.regions (insert_of s lent n page).write
insert_unused s lent n page small = insert_cases (λ o. OnUnused share s.regions o.write) s (λ a e x l m. absurd (omega arith)) lent n page small (λ p.
    inserted_unused share s.area s.regions s.objects n page p.may)
