-- A request served and run to rest, by the rules' calls alone. A turn steps, and confirms where the step says that a checkpoint is due;
-- the run ends with a turn that does nothing.
use Rattle.std.specs.Prelude.{ℕ, zero, suc, ◌+◌, ◌*◌, Bool, cond, List, [], ◌∷◌, length, replicate, eqb, Option, Some, None}
use Rattle.rules.specs.House.{most_objects}
use Rattle.rules.specs.Stores.{Store}
use Rattle.rules.specs.Answers.{number_of}
use Rattle.rules.specs.Calls.{Outcome, written, open_store, insert_of, delete_of, step_of, confirm_of, map_size}
use Rattle.rules.specs.declared.Answer.{Answer}
use Rattle.rules.specs.declared.Answer.TheVariants.{Done}
use Rattle.lines.specs.declared.Request.{Request}
use Rattle.lines.specs.declared.Request.TheVariants.{Insert, Delete}

-- a request on its way: the store, the area's bytes, the answer of its call, the moves made and the confirmations that were due
pub record Ran : Type 0 where
  pub store : Store
  pub area : List ℕ
  pub answer : Answer
  pub moves : ℕ
  pub waits : ℕ

-- what one turn comes to: the store, the area's bytes, whether a move was made, and whether a confirmation was due
pub record Turn : Type 0 where
  pub store : Store
  pub area : List ℕ
  pub moves : ℕ
  pub waits : ℕ

-- the answer tells of a running flush
abbrev pub is_running : Answer → Bool
is_running a = eqb (number_of a) 20

-- the answer tells of a checkpoint that is due
abbrev pub is_awaited : Answer → Bool
is_awaited a = eqb (number_of a) 9

-- room for the longest map
abbrev pub map_room : ℕ
map_room = map_size most_objects

-- a turn whose step was refused for a checkpoint that is due: it confirms
abbrev pub confirming : Outcome → List ℕ → Turn
confirming o area = record { store = (confirm_of o.store map_room).store; area = written area o.write; moves = 0; waits = 1 }

-- any other turn: its step made a move if a flush runs
abbrev pub stepping : Outcome → List ℕ → Turn
stepping o area = record { store = o.store; area = written area o.write; moves = cond (is_running o.answer) 1 0; waits = 0 }

-- the turn of a step that came to this
abbrev pub turn_by : Outcome → List ℕ → Turn
turn_by o area = cond (is_awaited o.answer) (confirming o area) (stepping o area)

-- a turn: a step, and a confirmation where the step says that a checkpoint is due
unfoldable pub turn_of : Store → List ℕ → Turn
turn_of s area = turn_by (step_of s area) area

-- a turn more
abbrev pub added : Ran → Turn → Ran
added r t = record { store = t.store; area = t.area; answer = r.answer; moves = r.moves + t.moves; waits = r.waits + t.waits }

-- at most n turns, up to one that does nothing
unfoldable pub to_rest : ℕ → Ran → Ran
to_rest zero r = r
to_rest (suc n) r =
    let t = turn_of r.store r.area in
    let on = to_rest n (added r t) in
    cond (eqb (t.moves + t.waits) 0) (added r t) on

-- the turns of any flush: each object is moved at most once in each of four phases, a wait comes after a move, and one more where there is none
abbrev pub fuel : ℕ
fuel = suc (2 * (4 * most_objects))

-- a run before its first turn
abbrev pub starting : Store → List ℕ → Answer → Ran
starting s area a = record { store = s; area = area; answer = a; moves = 0; waits = 0 }

-- the run that follows a call
abbrev pub following : List ℕ → Outcome → Ran
following area o = starting o.store (written area o.write) o.answer

-- a request before its first turn: I stores a page of one byte, D deletes
abbrev pub begun_by : Store → List ℕ → Option Request → Ran
begun_by s area (Some (Insert n m b)) = following area (insert_of s (length area) n (replicate m b))
begun_by s area (Some (Delete n)) = following area (delete_of s n)
begun_by s area None = starting s area Done

-- a request served and run to rest; a line that is no request does nothing
abbrev pub ran_of : Store → List ℕ → Option Request → Ran
ran_of s area (Some (Insert n m b)) = to_rest fuel (begun_by s area (Some (Insert n m b)))
ran_of s area (Some (Delete n)) = to_rest fuel (begun_by s area (Some (Delete n)))
ran_of s area None = begun_by s area None

-- what is kept from request to request: the store, and the area's bytes
pub record Kept : Type 0 where
  pub store : Store
  pub area : List ℕ

-- an opening for the whole of an area
abbrev pub opened : List ℕ → Kept
opened area = record { store = open_store (length area); area = area }

-- a session: after requests, one by one
unfoldable pub after_all : Kept → List (Option Request) → Kept
after_all k [] = k
after_all k (r ∷ rs) = let e = ran_of k.store k.area r in after_all (record { store = e.store; area = e.area }) rs
