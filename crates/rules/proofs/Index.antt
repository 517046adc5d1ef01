-- THE ELEVEN LAWS OF THE RULES, each with its statement; the proofs are in the files named by the imports.
-- q is the share's number (a buffer is 1/q of its payload), s a store; `sound q s ≡ true` is the test of specs/Sound.antt. Calls are those of
-- specs/Calls.antt, at the house's share.
use mathlib.Core.Path.{◌≡◌, refl, subst}
use mathlib.Core.Bool.{true, false}
use mathlib.Core.List.{List, [], ◌∷◌, ◌++◌}
use Prim.Native.Nat.{ℕ, ◌+◌, ◌-◌, ◌*◌, ◌^◌, ◌≤◌, ◌<◌}
use native.Mathlib.Omega.{arith}
use lib.ListN.{length}
use Rattle.rules.specs.House.{share, classes, longest, area_fits, most_name}
use Rattle.rules.specs.Classes.{Obj, class_of, volume}
use Rattle.rules.specs.Regions.{Regions, col, footprint}
use Rattle.rules.specs.Placing.{entered, raised}
use Rattle.rules.specs.Boundary.{boundary_of}
use Rattle.rules.specs.Flush.{Start, live, rebound, in_flush, Act, wait, plan, played}
use Rattle.rules.specs.Stores.{Store, Stage, resting, flushing, Flush, Request, start_by, start_in, begun, footprint_at, held_by, list_now}
use Rattle.rules.specs.Sound.{live_at, sound}
use Rattle.rules.specs.Answers.{accepted}
use Rattle.rules.specs.Sums.{waits_in}
use Rattle.rules.specs.Calls.{answering, open_store, insert_of, delete_of, step_of, confirm_in, confirm_of, map_size, find_answer, read_answer, read_of}
use Rattle.rules.specs.Calls.{ask_answer}
use Rattle.rules.specs.History.{Call, outcome_of, History, opening, after, Named, AllNamed, Reached, stored_by, deleted_by, total, Every}
use Rattle.rules.specs.declared.Answer.TheVariants.{WrongArea}
use Rattle.rules.proofs.Lists.{All, In, all_map}
use Rattle.rules.proofs.Tables.{more}
use Rattle.rules.proofs.Facts.{Balanced, Rest, clean_test, limits_facts}
use Rattle.rules.proofs.ClassLaws.{class_bounds, class_holds, class_only, class_monotone}
use Rattle.rules.proofs.Boundary.{Greatest, boundary_greatest, boundary_only}
use Rattle.rules.proofs.Balance.{entry_balanced, record_balanced, raised_balanced}
use Rattle.rules.proofs.Rebound.{flush_balanced}
use Rattle.rules.proofs.Footprint.{clean_first, footprint_law}
use Rattle.rules.proofs.Starts.{sound_parts, sound_starts}
use Rattle.rules.proofs.Writes.{EndsIn, footprint_within}
use Rattle.rules.proofs.StepWithin.{MovesBy, moves_within}
use Rattle.rules.proofs.Clear.{Clear}
use Rattle.rules.proofs.Plays.{moves_left, moves_of}
use Rattle.rules.proofs.Counts.{plan_shape, waits_apart, ends_in_wait}
use Rattle.rules.proofs.Steps.{todo_at, OnCourseAt, sound_on, Stepped, step_law, Closed, confirm_law, confirm_early}
use Rattle.rules.proofs.Turns.{RestsAfter, rests_after, flush_rests, stepping, confirming, turned, after_turns, onward, reaches_rest}
use Rattle.rules.proofs.CallTurns.{step_turns, confirm_turns}
use Rattle.rules.proofs.Safe.{Safe}
use Rattle.rules.proofs.FlushSafe.{Settled}
use Rattle.rules.proofs.Begun.{sound_plan_safe}
use Rattle.rules.proofs.Ends.{final_places, relocated, plan_ends, finals_taken, others_stay}
use Rattle.rules.proofs.Laid.{Laid}
use Rattle.rules.proofs.Now.{list_laid}
use Rattle.rules.proofs.Accepted.{sound_resting}
use Rattle.rules.proofs.History.{open_sound, refused_opening, call_keeps, refused_same, call_writes, delete_silent, confirm_silent, call_area}
use Rattle.rules.proofs.History.{after_sound, after_refused, refused_asking}
use Rattle.rules.proofs.KeptClear.{OnUnused, sound_clear, clear_ends, begun_clear, insert_unused}
use Rattle.rules.proofs.Demands.{reached, open_promised, after_volume, kept_clear}

-- LAW 1. Each length from 1 to the longest is of exactly one class from 1 to the last: that between whose powers of two it lies.
pub classes_law : (n : ℕ) → 1 ≤ n → n ≤ longest
    → ((1 ≤ class_of n) × (class_of n ≤ classes)) × ((2 ^ (class_of n - 1) ≤ n) × (n < 2 ^ class_of n))
    × ((i : ℕ) → 2 ^ (i - 1) ≤ n → n < 2 ^ i → i ≡ class_of n)
classes_law n some short = (class_bounds n some short, class_holds n some short, λ i a b. class_only n i short a b)

-- A longer one is of no lower class.
pub classes_rise_law : (m n : ℕ) → m ≤ n → n ≤ longest → class_of m ≤ class_of n
classes_rise_law = class_monotone

-- LAW 2. The boundary of a class c is the largest clean class at most c, and there is no other such class.
pub boundary_law : (q : ℕ) (s : Store) → sound q s ≡ true → (c : ℕ) → 1 ≤ c
    → Greatest s.regions.useds s.regions.lowests c (boundary_of s.regions.useds s.regions.lowests c)
    × ((b : ℕ) → Greatest s.regions.useds s.regions.lowests c b → boundary_of s.regions.useds s.regions.lowests c ≡ b)
boundary_law q s holds c some = (by_stage s.stage refl, boundary_only s.regions.useds s.regions.lowests c)
  where
    greatest : {gone : ℕ} → Rest q s.regions s.objects gone
        → Greatest s.regions.useds s.regions.lowests c (boundary_of s.regions.useds s.regions.lowests c)
    greatest r = boundary_greatest s.regions.useds s.regions.lowests (clean_test s.regions 1 (clean_first r)) c some

    by_stage : (g : Stage) → s.stage ≡ g → Greatest s.regions.useds s.regions.lowests c (boundary_of s.regions.useds s.regions.lowests c)
    by_stage resting p = greatest (sound_resting q s p holds).rest
    by_stage (flushing f) p = greatest (sound_starts q s f p holds).rest

-- LAW 3. The balance (enough live volume between each two clean classes) is kept: by an object of class c and length n that goes into buffer j,
pub balance_insert_law : {q gone : ℕ} {t : Regions} {os : List Obj} → Rest q t os gone → (j c n : ℕ) → c ≤ j → j ≤ classes → 0 < n
    → (now : ℕ → ℕ)
    → ((i : ℕ) → 1 ≤ i → i ≤ classes → now i ≡ more c n (live_at os gone) i) → Balanced (entered t j c n) now
balance_insert_law {gone = gone} {t = t} {os = os} r j c n up last some now grows = entry_balanced t j c n up last some r.lowest_some
    (live_at os gone) now grows r.balance

-- by one above the top class, where no payload has a size,
pub balance_above_law : {q gone : ℕ} {t : Regions} {os : List Obj} → Rest q t os gone → (c n : ℕ) → col t.sizes c ≡ 0 → (now : ℕ → ℕ)
    → ((i : ℕ) → 1 ≤ i → i ≤ classes → now i ≡ more c n (live_at os gone) i) → Balanced (raised t c n) now
balance_above_law {gone = gone} {t = t} {os = os} r c n none now grows = raised_balanced t c n (live_at os gone) now none grows r.balance

-- by the record of one that is deleted, in buffer j,
pub balance_delete_law : {q gone : ℕ} {t : Regions} {os : List Obj} → Rest q t os gone → (j c n : ℕ) → c ≤ j → j ≤ classes → 0 < n
    → (now : ℕ → ℕ)
    → ((i : ℕ) → 1 ≤ i → i ≤ classes → live_at os gone i ≡ more c n now i) → Balanced (entered t j c n) now
balance_delete_law {gone = gone} {t = t} {os = os} r j c n up last some now falls = record_balanced t j c n up last some r.lowest_some
    (live_at os gone) now falls r.balance

-- and by a whole flush.
pub balance_flush_law : (q : ℕ) (s : Store) (f : Flush) → s.stage ≡ flushing f → sound q s ≡ true
    → Balanced (rebound (start_in s f)) (live_at (live (start_in s f)) 0)
balance_flush_law q s f runs holds =
    let g = sound_starts q s f runs holds in
    flush_balanced (start_in s f) _ g.boundary_clean g.new_class g.gone_class g.rest.balance

-- LAW 4. At rest (q - 1) F ≤ (q + 1) V.
pub footprint_bound_law : (q : ℕ) (s : Store) → s.stage ≡ resting → sound q s ≡ true
    → (q - 1) * footprint q s.regions.sizes ≤ (q + 1) * volume s.objects
footprint_bound_law q s rests holds = omega (arith, footprint_law q s.regions s.objects 0 (sound_resting q s rests holds).rest)

-- At the house's share: 3 F ≤ 5 V.
pub footprint_house_law : (s : Store) → s.stage ≡ resting → sound share s ≡ true
    → 3 * footprint share s.regions.sizes ≤ 5 * volume s.objects
footprint_house_law s rests holds = footprint_bound_law share s rests holds

-- LAW 5. The quota: after any call in a sound store the end of overflow, and at rest F, is within the area;
pub quota_law : (s : Store) (area : List ℕ) (c : Call) → Named c → sound share s ≡ true
    → let w = (outcome_of s area c).store in footprint_at share w w.stage ≤ s.area
quota_law s area c named holds =
    omega (arith, footprint_within share (outcome_of s area c).store (omega arith) (call_keeps s area c named holds), call_area s area c named)

-- every object of the list ends within the area, in the middle of a flush too, and no two share a byte;
pub laid_law : (q : ℕ) (s : Store) → 3 ≤ q → sound q s ≡ true → Laid s.area (list_now q s)
laid_law q s three holds = list_laid q s holds three

-- whatever a call writes is within the area, and a delete and a confirmation write nothing;
pub writes_law : (s : Store) (area : List ℕ) (c : Call) → Named c → EndsIn s.area (outcome_of s area c).write
writes_law = call_writes

pub silent_law : (s : Store)
    → ((n : ℕ) → (delete_of s n).write ≡ record { at = 0; bytes = [] }) × ((room : ℕ) → (confirm_of s room).write ≡ record { at = 0; bytes = [] })
silent_law s = (delete_silent s, confirm_silent s)

-- and every move of a running flush takes its object from a place in the area to a place in the area.
pub moves_law : (q : ℕ) (s : Store) (f : Flush) → 3 ≤ q → s.stage ≡ flushing f → sound q s ≡ true
    → Every (MovesBy s.area) (moves_of (plan q (start_in s f)))
moves_law = moves_within

-- LAW 6. The plan of a flush is safe: each move starts where its object lies, and its target misses every place held now, every place held since the
-- last wait, and the pages kept before, of whatever length, which law 10 says are clear; at its end each object is at its final place.
pub safe_law : (q : ℕ) (s : Store) (f : Flush) → 3 ≤ q → s.stage ≡ flushing f → sound q s ≡ true
    → (kept : List Obj) → All (λ o. (1 ≤ o.len) × Clear q s.regions o) kept
    → Safe (plan q (start_in s f)) (λ now seen. Settled q (start_in s f) now) (live (start_in s f)) kept
safe_law q s f three runs holds kept clear =
    sound_plan_safe q s f three runs holds kept (all_map (λ o h. clear_ends q s.regions o h.0 h.1) kept clear)

-- LAW 7. After the whole plan each object of the flush lies at its final place, and every other one where it lay.
pub final_places_law : (q : ℕ) (s : Store) (f : Flush) → s.stage ≡ flushing f → sound q s ≡ true
    → played (plan q (start_in s f)) (moves_left (plan q (start_in s f))) (live (start_in s f))
    ≡ relocated (final_places q (start_in s f)) (live (start_in s f))
final_places_law q s f runs holds =
    plan_ends q (start_in s f) (limits_facts q s.area (live (start_in s f)) (sound_parts q s (flushing f) runs holds).0).differ

-- So at each final place lies its object, and an object below the flushed regions lies where it lay.
pub final_taken_law : (q : ℕ) (s : Store) (f : Flush) → s.stage ≡ flushing f → sound q s ≡ true → let start = start_in s f in
    ((y : Obj) → In y (final_places q start) → In y (played (plan q start) (moves_left (plan q start)) (live start)))
    × ((o : Obj) → In o s.objects → in_flush q start o ≡ false → In o (played (plan q start) (moves_left (plan q start)) (live start)))
final_taken_law q s f runs holds =
    let differ = (limits_facts q s.area (live (start_in s f)) (sound_parts q s (flushing f) runs holds).0).differ in
    (finals_taken q (start_in s f) differ, others_stay q (start_in s f) differ)

-- LAW 8. The number of steps and of confirmations that a flush needs is fixed when it begins: those of its plan, whatever other turns come between;
pub steps_law : (q : ℕ) (s : Store) (r : Request) (b : ℕ)
    → RestsAfter q (begun q s r b) (moves_left (plan q (start_by s.regions s.objects r b))) (waits_in (plan q (start_by s.regions s.objects r b)))
steps_law q s r b = flush_rests q s r b

-- and at any time it is that of the moves and waits yet to be done.
pub steps_left_law : (q : ℕ) (s : Store) → sound q s ≡ true → RestsAfter q s (moves_left (todo_at q s s.stage)) (waits_in (todo_at q s s.stage))
steps_left_law q s holds = rests_after q s (sound_on q s holds)

-- A host that confirms where a checkpoint is due, and else steps, so reaches rest.
pub rest_reached_law : (areas : ℕ → List ℕ) (q : ℕ) (s : Store) (n : ℕ) → sound q s ≡ true
    → moves_left (todo_at q s s.stage) + waits_in (todo_at q s s.stage) ≤ n
    → (after_turns q s (onward areas q s n)).stage ≡ resting
rest_reached_law areas q s n holds = reaches_rest areas q s n (sound_on q s holds)

-- No two waits of a plan follow one another, and its last act is a wait.
pub waits_law : (q : ℕ) (s : Start)
    → ((xs ys : List Act) → plan q s ≡ xs ++ (wait ∷ wait ∷ ys) → ⊥)
    × ((xs : List Act) × (plan q s ≡ xs ++ (wait ∷ [])))
waits_law q s =
    let shape = plan_shape q s in
    (λ xs ys e. waits_apart xs ys (rw e at shape), ends_in_wait (plan q s) shape)

-- A turn is a call: a step with the store's own area lent, or a confirmation with room for the map.
pub turns_law : (s : Store) → sound share s ≡ true
    → ((area : List ℕ) → length area ≡ s.area → (step_of s area).store ≡ turned share s s.stage (stepping area))
    × ((room : ℕ) → map_size (length (held_by s)) ≤ room → (confirm_of s room).store ≡ turned share s s.stage confirming)
turns_law s holds = (λ area own. step_turns s area holds own, λ room fits. confirm_turns s room holds fits)

-- LAW 9. An opened store is sound; every call from a sound store gives a sound store; a refused call the same store, and it writes nothing.
pub sound_open_law : (q a : ℕ) → area_fits a ≡ true → sound q (open_store a) ≡ true
sound_open_law = open_sound

pub sound_kept_law : (s : Store) (area : List ℕ) (c : Call) → Named c → sound share s ≡ true → sound share (outcome_of s area c).store ≡ true
sound_kept_law = call_keeps

pub refused_law : (s : Store) (area : List ℕ) (c : Call) → accepted (outcome_of s area c).answer ≡ false
    → outcome_of s area c ≡ answering s (outcome_of s area c).answer
refused_law = refused_same

-- So over any history of calls since an opening the store is sound, V is the sum of the lengths accepted less those deleted,
pub history_law : (area : List ℕ) (cs : List Call) → area_fits (length area) ≡ true → AllNamed cs → let h = after (opening area) cs in
    (sound share h.store ≡ true) × (volume (held_by h.store) + total deleted_by (opening area) cs ≡ total stored_by (opening area) cs)
unfolding volume
history_law area cs fits named =
    (after_sound (opening area) cs named (open_sound share (length area) fits), omega (arith, after_volume (opening area) cs named (open_promised area fits)))

-- and after a refused opening every call is refused with answer 1, whatever came before.
pub refused_opening_law : (area : List ℕ) (cs : List Call) (c : Call) → area_fits (length area) ≡ false → let h = after (opening area) cs in
    outcome_of h.store h.area c ≡ answering h.store WrongArea
refused_opening_law area cs c e = rw (after_refused area cs e) (refused_opening (length area) area c e)

-- Every question is refused so too, and a read hands back the blank page.
pub refused_asking_law : (area : List ℕ) (cs : List Call) → area_fits (length area) ≡ false → let s = (after (opening area) cs).store in
    ((n : ℕ) → find_answer s n ≡ WrongArea) × ((lent n : ℕ) → read_answer s lent n ≡ WrongArea) × (ask_answer s ≡ WrongArea)
    × ((lent blank : List ℕ) (n : ℕ) → read_of s lent blank n ≡ blank)
refused_asking_law area cs e = rw (after_refused area cs e) (refused_asking (length area) e)

-- LAW 10. At rest no byte of a page held lies in the unused part of a buffer or at or above F,
pub held_clear_law : (q : ℕ) (s : Store) → s.stage ≡ resting → sound q s ≡ true → All (Clear q s.regions) s.objects
held_clear_law = sound_clear

-- nor, over any history, does one of a page in the last map kept;
pub kept_clear_law : (h : History) → Reached h
    → h.store.stage ≡ resting → Every (λ p. Clear share h.store.regions p.object) h.kept
kept_clear_law =
    reached (λ h. h.store.stage ≡ resting → Every (λ p. Clear share h.store.regions p.object) h.kept) kept_clear (λ area e rests. tt)

-- a call at rest leaves clear what was clear, also where it begins a flush, as law 6 asks;
pub begun_clear_law : (s : Store) (area : List ℕ) (kept : List Obj) (c : Call) → Named c → s.stage ≡ resting → All (Clear share s.regions) kept
    → All (Clear share (outcome_of s area c).store.regions) kept
begun_clear_law = begun_clear

-- and all that an insert writes was unused.
pub insert_unused_law : (s : Store) (lent n : ℕ) (page : List ℕ) → n ≤ most_name → OnUnused share s.regions (insert_of s lent n page).write
insert_unused_law = insert_unused

-- LAW 11. Where no checkpoint is due, a step does the plan's next move, writes its bytes, and leaves the rest to be done;
pub step_next_law : (q : ℕ) (s : Store) (f : Flush) → s.stage ≡ flushing f → sound q s ≡ true → f.due ≡ false → Stepped q s f
step_next_law q s f runs holds early = step_law q s f (subst (OnCourseAt q s) runs (sound_on q s holds)) early

-- where one is due, a confirmation closes the plan's next wait, and ends the flush where it is the last act; where none is due, it changes nothing.
pub confirm_next_law : (q : ℕ) (s : Store) (f : Flush) → s.stage ≡ flushing f → sound q s ≡ true
    → (f.due ≡ true → Closed q s f) × (f.due ≡ false → confirm_in q s (flushing f) ≡ s)
confirm_next_law q s f runs holds = (confirm_law q s f (subst (OnCourseAt q s) runs (sound_on q s holds)), confirm_early q s f)
