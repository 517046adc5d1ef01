-- A course's plan: its turns, and what it has ahead.
use Rattle.std.specs.Prelude.{ℕ, List, Option}
use Rattle.plan.specs.declared.Phase.{Phase}
use Rattle.plan.specs.declared.Turn.{Turn}
use Rattle.plan.specs.declared.Ahead.{Ahead}
use Rattle.plan.specs.declared.courses.Course.{Course}
use Rattle.plan.specs.Turns.{phase_turns, later_turns, turn_at, ahead_at}

-- the turns of a phase, from the places in one column to those in another
abbrev pub phase_along : Course → List ℕ → List ℕ → Phase → List Turn
phase_along c from to p = phase_turns c.kinds.now from to c.lens.now c.limit p

-- the turns of phases 3 and 4
abbrev pub later_along : Course → List Turn
later_along c = later_turns c.kinds.now c.middles.now c.finals.now c.lens.now c.limit c.n

-- the next turn after `made` moves
abbrev pub turn_along : Course → ℕ → Option Turn
turn_along c made = turn_at c.kinds.now c.starts.now c.middles.now c.finals.now c.lens.now c.limit c.old c.n made

-- what is ahead after `made` moves
abbrev pub ahead_along : Course → ℕ → Ahead
ahead_along c made = ahead_at c.kinds.now c.starts.now c.middles.now c.finals.now c.lens.now c.limit c.old c.n made
