use mathlib.Core.Path.{ap, ◌∙◌}
use borrow.Author.Rules.{rules}
use Rattle.std.specs.Prelude.{Some}
use Rattle.plan.proofs.Laws.{left_yes, left_no, left_end, sought_here, sought_yes, sought_no, sought_end}
use Rattle.plan.proofs.next.turn_in.Goals as goal

pub returns-then-skip-eq0 : goal.returns-then-skip-eq0
returns-then-skip-eq0 c =
    ap Some (c.turn_of.ensures ∙ rw c.begins.ensures)
    ∙ sought_here _ _ _ _ _ _ c.loop-i.invariant _ _
    (left_yes _ _ _ _ _ _ (search rules) c.index_at-j.ensures.value c.if-kinds-j.false) (search rules)

pub loop-i-preserved-then-kinds-j : goal.loop-i-preserved-then-kinds-j
loop-i-preserved-then-kinds-j c = sought_no _ _ _ _ _ _ c.loop-i.invariant _
    (left_no _ _ _ _ _ _ (search rules) c.index_at-j.ensures.value c.if-kinds-j.true)

pub loop-i-preserved : goal.loop-i-preserved
loop-i-preserved c = rw c.room_after-room.ensures
    (sought_yes _ _ _ _ _ _ c.loop-i.invariant _ _
    (left_yes _ _ _ _ _ _ (search rules) c.index_at-j.ensures.value
    c.if-kinds-j.false) (search rules))

pub returns : goal.returns
returns c = sought_end _ _ _ _ _ _ c.loop-i.invariant (left_end _ _ _ _ _ (search rules))
