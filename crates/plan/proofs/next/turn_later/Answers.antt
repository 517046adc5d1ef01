-- `next::turn_later` meets its contract: the turn is in phase 3, or past it in phase 4.
use mathlib.Core.Path.{◌∙◌}
use borrow.Author.Rules.{rules}
use Rattle.plan.proofs.Whole.{in_phase, past_phase}
use Rattle.plan.proofs.next.turn_later.Goals as goal

pub returns-then-rank-three : goal.returns-then-rank-three
returns-then-rank-three c = c.turn_in.ensures
    ∙ in_phase _ _ _ _ _ _ _ c.spreading-third.ensures _ _ _ c.count_in-three.ensures.value (search rules)

pub returns : goal.returns
returns c = c.turn_in-2.ensures
    ∙ rw c.settling.ensures
    (past_phase _ _ _ _ _ _ _ c.spreading-third.ensures _ _ _ c.count_in-three.ensures.value (search rules))
