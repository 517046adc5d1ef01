-- A flush's plan as turns: its moves in order, by the index of the object in the columns, each with a mark where it begins a run.
use Rattle.std.specs.Prelude.{ℕ, zero, suc, ◌+◌, ◌-◌, ◌≤◌, List, [], ◌∷◌, ◌++◌, get_or, set, take, length, slice_get}
use Rattle.std.specs.Prelude.{Bool, true, false, cond, not, ltb, eqb, Option, Some, None}
use Rattle.std.specs.Option.{option_map_or}
use Rattle.rules.specs.House.{most_objects}
use Rattle.rules.specs.Flush.{Move}
use Rattle.rules.specs.Columns.{of_payload, of_overflow}
use Rattle.plan.specs.declared.Cut.{Cut}
use Rattle.plan.specs.declared.Cut.TheVariants.{Whole, Volumes, Spans}
use Rattle.plan.specs.declared.Phase.{Phase}
use Rattle.plan.specs.declared.Turn.{Turn}
use Rattle.plan.specs.declared.Ahead.{Ahead}

-- the four phases, of `old` objects before the request and n with it
abbrev pub lifting : ℕ → Phase
lifting old = record { kind = of_overflow; falling = false; count = old; cut = Whole }

abbrev pub packing : ℕ → Phase
packing n = record { kind = of_payload; falling = true; count = n; cut = Volumes }

abbrev pub spreading : ℕ → Phase
spreading n = record { kind = of_payload; falling = false; count = n; cut = Spans }

abbrev pub settling : ℕ → Phase
settling n = record { kind = of_overflow; falling = false; count = n; cut = Whole }

-- the index at position i of `count` objects in rising or falling order
abbrev pub index_at : Bool → ℕ → ℕ → ℕ
index_at falling count i = cond falling (count - suc i) i

-- an index in front, if it is taken
abbrev pub keep : Bool → ℕ → List ℕ → List ℕ
keep b i is = cond b (i ∷ is) is

-- the indices of those of a kind, at the m positions from i on
unfoldable pub order_from : List ℕ → ℕ → Bool → ℕ → ℕ → ℕ → List ℕ
order_from kinds kind falling count i zero = []
order_from kinds kind falling count i (suc m) =
    let j = index_at falling count i in
    keep (eqb (get_or kinds j 0) kind) j (order_from kinds kind falling count (suc i) m)

-- the indices of a phase's objects, in the order of its moves
abbrev pub order : List ℕ → Phase → List ℕ
order kinds p = order_from kinds p.kind p.falling p.count 0 p.count

-- Room is 0 before a phase's first move, and else 1 more than the volume or the reach that the present run has left. By volume a move asks
-- for its length, and a new run has room for the limit; by span these are counted from the move's target.
unfoldable pub level : Cut → ℕ → ℕ → ℕ
level Whole to bytes = 1
level Volumes to bytes = suc bytes
level Spans to bytes = suc (to + bytes)

-- a move uses up its length, where runs are cut by volume
unfoldable pub spent : Cut → ℕ → ℕ
spent Whole len = 0
spent Volumes len = len
spent Spans len = 0

-- a run begins with a move for which the present one has no room
abbrev pub begins : Cut → ℕ → ℕ → ℕ → Bool
begins cut room to len = ltb room (level cut to len)

-- the room behind a move
unfoldable pub room_after : Cut → ℕ → ℕ → ℕ → ℕ → ℕ
room_after cut limit room to len = cond (begins cut room to len) (level cut to limit) room - spent cut len

-- the turn of object i, from its place in one column to its place in another
abbrev pub turn_of : List ℕ → List ℕ → ℕ → Bool → Turn
turn_of from to i b = record { index = i; from = get_or from i 0; to = get_or to i 0; begins = b }

-- the move of a turn, and the list of it, empty where there is none
abbrev pub move_of : List ℕ → List ℕ → Turn → Move
move_of names lens t = record { object = record { name = get_or names t.index 0; at = t.from; len = get_or lens t.index 0 }; to = t.to }

abbrev pub moves_of : List ℕ → List ℕ → Option Turn → List Move
moves_of names lens None = []
moves_of names lens (Some t) = move_of names lens t ∷ []

-- the turns of the objects `is`, cut into runs
unfoldable pub cut_turns : List ℕ → List ℕ → List ℕ → ℕ → Cut → ℕ → List ℕ → List Turn
cut_turns from to lens limit cut room [] = []
cut_turns from to lens limit cut room (i ∷ is) =
    turn_of from to i (begins cut room (get_or to i 0) (get_or lens i 0))
    ∷ cut_turns from to lens limit cut (room_after cut limit room (get_or to i 0) (get_or lens i 0)) is

-- the turns of a phase
abbrev pub phase_turns : List ℕ → List ℕ → List ℕ → List ℕ → ℕ → Phase → List Turn
phase_turns kinds from to lens limit p = cut_turns from to lens limit p.cut 0 (order kinds p)

-- the turns of phases 3 and 4
abbrev pub later_turns : List ℕ → List ℕ → List ℕ → List ℕ → ℕ → ℕ → List Turn
later_turns kinds middles finals lens limit n =
    phase_turns kinds middles finals lens limit (spreading n) ++ phase_turns kinds middles finals lens limit (settling n)

-- the turns of a plan: its four phases
unfoldable pub plan_turns : List ℕ → List ℕ → List ℕ → List ℕ → List ℕ → ℕ → ℕ → ℕ → List Turn
plan_turns kinds starts middles finals lens limit old n =
    phase_turns kinds starts middles lens limit (lifting old)
    ++ (phase_turns kinds starts middles lens limit (packing n) ++ later_turns kinds middles finals lens limit n)

-- turn number m, from 0
abbrev pub nth_turn : List Turn → ℕ → Option Turn
nth_turn ts m = slice_get ts m

-- the next turn after `made` moves
abbrev pub turn_at : List ℕ → List ℕ → List ℕ → List ℕ → List ℕ → ℕ → ℕ → ℕ → ℕ → Option Turn
turn_at kinds starts middles finals lens limit old n made = nth_turn (plan_turns kinds starts middles finals lens limit old n) made

-- the number of moves
abbrev pub total_moves : List ℕ → ℕ → ℕ → ℕ
total_moves kinds old n =
    length (order kinds (lifting old)) + length (order kinds (packing n)) + length (order kinds (spreading n)) + length (order kinds (settling n))

-- what is ahead after `made` moves
abbrev pub ahead_at : List ℕ → List ℕ → List ℕ → List ℕ → List ℕ → ℕ → ℕ → ℕ → ℕ → Ahead
ahead_at kinds starts middles finals lens limit old n made =
    record { total = total_moves kinds old n; next = turn_at kinds starts middles finals lens limit old n made }

-- a run ends with the last of `made` moves, of `total`: the plan does, or the next move begins a run
abbrev pub run_ends : ℕ → ℕ → Option Turn → Bool
run_ends total made next = cond (eqb made total) true (cond (eqb made 0) false (option_map_or (λ t. t.begins) next false))

-- a checkpoint may be due, or not be due, after `made` moves
abbrev pub may_be_due : ℕ → ℕ → Option Turn → Bool → Bool
may_be_due total made next due =
    cond (eqb made total) due (cond (ltb total made) false (cond (run_ends total made next) true (not due)))

-- these objects at their places in `to`
unfoldable pub moved_to : List ℕ → List ℕ → List ℕ → List ℕ
moved_to to [] places = places
moved_to to (i ∷ is) places = moved_to to is (set places i (get_or to i 0))

-- the places after the first `made` moves of a phase
abbrev pub phase_moved : List ℕ → List ℕ → Phase → ℕ → List ℕ → List ℕ
phase_moved kinds to p made places = moved_to to (take made (order kinds p)) places

-- the moves left for what comes behind a phase
abbrev pub left_after : List ℕ → Phase → ℕ → ℕ
left_after kinds p made = made - length (order kinds p)

-- the places after `made` moves
unfoldable pub places_after : List ℕ → List ℕ → List ℕ → List ℕ → ℕ → ℕ → ℕ → List ℕ
places_after kinds starts middles finals old n made =
    let two = left_after kinds (lifting old) made in
    let three = left_after kinds (packing n) two in
    let four = left_after kinds (spreading n) three in
    phase_moved kinds finals (settling n) four
    (phase_moved kinds finals (spreading n) three
    (phase_moved kinds middles (packing n) two
    (phase_moved kinds middles (lifting old) made starts)))

-- the columns have an entry for each of the n objects, of which `old` were there before the request
pub record Columned (kinds starts middles finals lens : List ℕ) (old n : ℕ) : Type 0 where
  pub some_old : old ≤ n
  pub few : n ≤ most_objects
  pub kinds_reach : n ≤ length kinds
  pub starts_reach : n ≤ length starts
  pub middles_reach : n ≤ length middles
  pub finals_reach : n ≤ length finals
  pub lens_reach : n ≤ length lens
