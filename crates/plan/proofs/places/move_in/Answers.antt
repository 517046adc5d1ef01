use borrow.Author.Rules.{rules}
use Rattle.plan.proofs.Laws.{left_yes, left_no, left_end, moving_stop, moving_yes, moving_no, moving_end}
use Rattle.plan.proofs.places.move_in.Goals as goal

pub returns-then-left-eq0 : goal.returns-then-left-eq0
returns-then-left-eq0 c =
    let stop = moving_stop _ _ _ c.loop-i.invariant (search rules) in
    record { places_after = stop.0; value = stop.1 }

pub loop-i-preserved-then-kinds-j : goal.loop-i-preserved-then-kinds-j
loop-i-preserved-then-kinds-j c = moving_no _ _ _ c.loop-i.invariant _
    (left_no _ _ _ _ _ _ (search rules) c.index_at-j.ensures.value c.if-kinds-j.true)

pub loop-i-preserved : goal.loop-i-preserved
loop-i-preserved c = moving_yes _ _ _ c.loop-i.invariant _ _
    (left_yes _ _ _ _ _ _ (search rules) c.index_at-j.ensures.value c.if-kinds-j.false) (search rules)

pub returns : goal.returns
returns c =
    let end = moving_end _ _ _ c.loop-i.invariant (left_end _ _ _ _ _ (search rules)) in
    record { places_after = end.0; value = end.1 }
