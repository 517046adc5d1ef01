-- The calls: for each its tests in order, and what it does where none applies. `lent` is the length of the area lent.
use Rattle.std.specs.Prelude.{ℕ, ◌+◌, ◌*◌, Bool, true, false, cond, not, ◌&&◌, ◌||◌, List, [], ◌∷◌, ◌++◌, length, take, drop, leb, ltb, eqb}
use Rattle.rules.specs.House.{share, longest, most_objects, area_fits, quota_of, head_size, entry_size}
use Rattle.rules.specs.Classes.{Obj, class_of, volume, filter, insert_by_place}
use Rattle.rules.specs.Regions.{Regions, col, footprint, buffer_start, top_class, no_regions}
use Rattle.rules.specs.Placing.{room_for, entered, raised}
use Rattle.rules.specs.Boundary.{boundary_of}
use Rattle.rules.specs.Flush.{Act, Move, move, wait, new_place}
use Rattle.rules.specs.Stores.{Store, Stage, resting, flushing, Flush, storing, dropping, at_stage, resting_at, start_by, begun, ahead_of, advanced}
use Rattle.rules.specs.Stores.{waited, settled_store, list_now, footprint_at, held_by}
use Rattle.rules.specs.Sound.{sound}
use Rattle.rules.specs.Answers.{Test, first, accepted}
use Rattle.rules.specs.declared.Answer.{Answer}
use Rattle.rules.specs.declared.Answer.TheVariants.{Done, Running, Unsound, WrongArea, Busy, NameZero, BadLength, NameHeld, NotHeld, Full}
use Rattle.rules.specs.declared.Answer.TheVariants.{OverQuota, CheckpointDue, ShortBuffer}

-- the one place that a call writes, and the bytes
pub record Write : Type 0 where
  pub at : ℕ
  pub bytes : List ℕ

-- a lent buffer after a write
abbrev pub written : List ℕ → Write → List ℕ
written bs w = take w.at bs ++ (w.bytes ++ drop (w.at + length w.bytes) bs)

-- what a call comes to: the store handed back, the answer, and the write to the area
pub record Outcome : Type 0 where
  pub store : Store
  pub answer : Answer
  pub write : Write

-- an outcome that writes nothing
abbrev pub answering : Store → Answer → Outcome
answering s a = record { store = s; answer = a; write = record { at = 0; bytes = [] } }

-- an outcome that writes a page
abbrev pub storing_at : Store → Answer → ℕ → List ℕ → Outcome
storing_at s a at page = record { store = s; answer = a; write = record { at = at; bytes = page } }

-- what a call does, unless a test refuses it
abbrev pub unless_refused : Store → Answer → Outcome → Outcome
unless_refused s a done = cond (accepted a) done (answering s a)

-- a test, and its answer
abbrev pub test : Bool → Answer → Test
test b a = record { applies = b; gives = a }

-- the store comes from a refused opening
abbrev pub from_refused : Store → Bool
from_refused s = eqb s.area 0

-- a flush runs
abbrev pub running : Stage → Bool
running resting = false
running (flushing f) = true

-- a checkpoint is due
abbrev pub due_in : Stage → Bool
due_in resting = false
due_in (flushing f) = f.due

-- the object of a name, as a list of one or none
unfoldable pub named : ℕ → List Obj → List Obj
named n os = filter (λ o. eqb o.name n) os

-- the objects of other names
unfoldable pub others : ℕ → List Obj → List Obj
others n os = filter (λ o. not (eqb o.name n)) os

-- a name is held
abbrev pub held : Store → ℕ → Bool
held s n = ltb 0 (length (named n (held_by s)))

-- the tests of every call: a sound store, of no refused opening, and its own area lent
abbrev pub store_tests : Store → ℕ → List Test
store_tests s lent =
    test (not (from_refused s) && not (sound share s)) Unsound ∷ test (from_refused s || not (eqb lent s.area)) WrongArea ∷ []

-- the tests of a name to be found
abbrev pub name_tests : Store → ℕ → List Test
name_tests s n = test (eqb n 0) NameZero ∷ test (not (held s n)) NotHeld ∷ []

-- OPEN: the store for an area of length a, and the answer
abbrev pub open_store : ℕ → Store
open_store a = resting_at (cond (area_fits a) a 0) no_regions []

-- the answer of an opening
abbrev pub open_answer : ℕ → Answer
open_answer a = cond (area_fits a) Done WrongArea

-- INSERT: its tests, for a page under the name n
abbrev pub insert_tests : Store → ℕ → ℕ → List ℕ → List Test
insert_tests s lent n page =
    store_tests s lent ++ (test (running s.stage) Busy
    ∷ test (eqb n 0) NameZero
    ∷ test (eqb (length page) 0 || ltb longest (length page)) BadLength
    ∷ test (held s n) NameHeld
    ∷ test (leb most_objects (length (held_by s))) Full
    ∷ test (ltb (quota_of share longest s.area) (volume (held_by s) + length page)) OverQuota
    ∷ [])

-- the object of a page
abbrev pub object : ℕ → ℕ → List ℕ → Obj
object n at page = record { name = n; at = at; len = length page }

-- a store at rest with one object more, and the regions t
abbrev pub grown : Store → Regions → Obj → Store
grown s t o = resting_at s.area t (insert_by_place o s.objects)

-- above the top class: the object goes to F
unfoldable pub insert_above : ℕ → Store → ℕ → List ℕ → Outcome
insert_above q s n page =
    let at = footprint q s.regions.sizes in
    storing_at (grown s (raised s.regions (class_of (length page)) (length page)) (object n at page)) Done at page

-- into the unused space of buffer j
unfoldable pub insert_into : ℕ → Store → ℕ → List ℕ → ℕ → Outcome
insert_into q s n page j =
    let at = buffer_start q s.regions.sizes j + col s.regions.useds j in
    storing_at (grown s (entered s.regions j (class_of (length page)) (length page)) (object n at page)) Done at page

-- the boundary of a request
abbrev pub boundary_for : Store → ℕ → ℕ
boundary_for s len = boundary_of s.regions.useds s.regions.lowests (class_of len)

-- by a flush, straight into overflow
unfoldable pub insert_flush : ℕ → Store → ℕ → List ℕ → Outcome
insert_flush q s n page =
    let b = boundary_for s (length page) in
    let at = new_place q (start_by s.regions s.objects (storing (object n 0 page)) b) in
    storing_at (begun q s (storing (object n at page)) b) Running at page

-- the buffer that takes an object or a record, or 0
abbrev pub room_in : ℕ → Store → ℕ → ℕ
room_in q s len = room_for q s.regions.sizes s.regions.useds (class_of len) len

-- an accepted insert
unfoldable pub inserted : ℕ → Store → ℕ → List ℕ → Outcome
inserted q s n page =
    let j = room_in q s (length page) in
    let above = insert_above q s n page in
    let into = insert_into q s n page j in
    let flushed = insert_flush q s n page in
    cond (ltb (top_class s.regions.sizes) (class_of (length page))) above (cond (eqb j 0) flushed into)

-- insert
unfoldable pub insert_of : Store → ℕ → ℕ → List ℕ → Outcome
insert_of s lent n page = let done = inserted share s n page in unless_refused s (first (insert_tests s lent n page)) done

-- DELETE: an accepted one, of an object of length len: a record of it into a buffer, or a flush
unfoldable pub deleted : ℕ → Store → ℕ → ℕ → Outcome
deleted q s n len =
    let j = room_in q s len in
    let rest = resting_at s.area s.regions (others n s.objects) in
    let noted = answering (resting_at s.area (entered s.regions j (class_of len) len) rest.objects) Done in
    let flushed = answering (begun q rest (dropping len) (boundary_for s len)) Running in
    cond (eqb j 0) flushed noted

-- delete
unfoldable pub delete_of : Store → ℕ → Outcome
delete_of s n =
    let done = deleted share s n (volume (named n s.objects)) in
    unless_refused s (first (store_tests s s.area ++ (test (running s.stage) Busy ∷ name_tests s n))) done

-- STEP: the next move ahead, behind a wait that was confirmed
abbrev pub next_move : List Act → List Move
next_move [] = []
next_move (move m ∷ acts) = m ∷ []
next_move (wait ∷ []) = []
next_move (wait ∷ wait ∷ acts) = []
next_move (wait ∷ move m ∷ acts) = m ∷ []

-- one whole move: the object's bytes, from where it lies to its target
abbrev pub stepped : ℕ → Store → Flush → List ℕ → List Move → Outcome
stepped q s f area [] = answering s Running
stepped q s f area (m ∷ ms) =
    storing_at (at_stage s (flushing (advanced q s f))) Running m.to (take m.object.len (drop m.object.at area))

-- an accepted step; at rest it changes nothing
abbrev pub step_in : ℕ → Store → List ℕ → Stage → Outcome
step_in q s area resting = answering s Done
step_in q s area (flushing f) = stepped q s f area (next_move (ahead_of q s f))

-- step
unfoldable pub step_of : Store → List ℕ → Outcome
step_of s area =
    let done = step_in share s area s.stage in
    unless_refused s (first (store_tests s (length area) ++ (test (due_in s.stage) CheckpointDue ∷ []))) done

-- CONFIRM: only the last checkpoint is ahead
abbrev pub last_ahead : List Act → Bool
last_ahead [] = false
last_ahead (a ∷ []) = true
last_ahead (a ∷ b ∷ acts) = false

-- a checkpoint that is due is behind; the last one ends the flush; any other changes nothing
abbrev pub confirm_in : ℕ → Store → Stage → Store
confirm_in q s resting = s
confirm_in q s (flushing f) =
    cond f.due (cond (last_ahead (ahead_of q s f)) (settled_store q s f) (at_stage s (flushing (waited f)))) s

-- the size of a map of n objects
abbrev pub map_size : ℕ → ℕ
map_size n = head_size + entry_size * n

-- confirm, into a buffer of `room` bytes: the map written is that of `list_now`
unfoldable pub confirm_of : Store → ℕ → Outcome
confirm_of s room =
    let done = answering (confirm_in share s s.stage) Done in
    unless_refused s (first (store_tests s s.area ++ (test (ltb room (map_size (length (held_by s)))) ShortBuffer ∷ []))) done

-- FIND: the answer
unfoldable pub find_answer : Store → ℕ → Answer
find_answer s n = first (store_tests s s.area ++ name_tests s n)

-- READ: the answer
unfoldable pub read_answer : Store → ℕ → ℕ → Answer
read_answer s lent n = first (store_tests s lent ++ name_tests s n)

-- the bytes at an object's place, or a blank page
abbrev pub page_at : List ℕ → List ℕ → List Obj → List ℕ
page_at area blank [] = blank
page_at area blank (o ∷ os) = take o.len (drop o.at area)

-- the object's own part of the area, or, on any refusal, the blank page
unfoldable pub read_of : Store → List ℕ → List ℕ → ℕ → List ℕ
read_of s area blank n = cond (accepted (read_answer s (length area) n)) (page_at area blank (named n (list_now share s))) blank

-- FOOTPRINT, VOLUME, DUE: the answer
unfoldable pub ask_answer : Store → Answer
ask_answer s = first (store_tests s s.area)

-- the footprint, 0 where refused
unfoldable pub footprint_of : Store → ℕ
footprint_of s = cond (accepted (ask_answer s)) (footprint_at share s s.stage) 0

-- the volume, 0 where refused
unfoldable pub volume_held : Store → ℕ
volume_held s = cond (accepted (ask_answer s)) (volume (held_by s)) 0

-- whether a checkpoint is due
unfoldable pub is_due : Store → Bool
is_due s = accepted (ask_answer s) && due_in s.stage
