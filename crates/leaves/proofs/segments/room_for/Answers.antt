use mathlib.Core.Path.{sym, ◌∙◌}
use borrow.Author.Rules.{rules}
use Rattle.rules.specs.House.{share}
use Rattle.leaves.proofs.Leaves.{room_start, found, passed, ended}
use Rattle.leaves.proofs.segments.room_for.Goals as goal

pub loop-j-init : goal.loop-j-init
loop-j-init c = room_start share _ _ _ _ _ (search rules)

pub returns-then-has_room : goal.returns-then-has_room
returns-then-has_room c = found c.loop-j.invariant (search rules) (sym c.has_room.ensures ∙ c.if-has_room.true)

pub returns-else-has_room : goal.returns-else-has_room
returns-else-has_room c =
    ended (passed c.loop-j.invariant (search rules) (sym c.has_room.ensures ∙ c.if-has_room.false)) (search rules)
