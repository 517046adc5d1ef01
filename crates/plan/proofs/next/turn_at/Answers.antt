-- `next::turn_at` meets its contract: the turn is in phase 1, or past it in phase 2, or past both.
use mathlib.Core.Path.{◌∙◌}
use borrow.Author.Rules.{rules}
use Rattle.plan.specs.Turns.{plan_turns}
use Rattle.plan.proofs.Whole.{in_phase, past_phase, turn_known}
use Rattle.plan.proofs.next.turn_at.Goals as goal

pub returns-then-made-one : goal.returns-then-made-one
unfolding plan_turns
returns-then-made-one c =
    let k = c.args.course in
    let known =
    turn_known k.kinds.now k.starts.now k.middles.now k.finals.now k.lens.now k.limit k.old k.n k.columned.some_old c.args.made _
    (c.turn_in.ensures ∙ in_phase _ _ _ _ _ _ _ c.lifting-first.ensures _ _ _ c.count_in-one.ensures.value
    (search rules)) in
    record { value = known.0; index_lt_n = known.1 }

pub returns-then-left-two : goal.returns-then-left-two
unfolding plan_turns
returns-then-left-two c =
    let k = c.args.course in
    let known =
    turn_known k.kinds.now k.starts.now k.middles.now k.finals.now k.lens.now k.limit k.old k.n k.columned.some_old c.args.made _
    (c.turn_in-then-left-two.ensures
    ∙ in_phase _ _ _ _ _ _ _ c.packing-second.ensures _ _ _ c.count_in-two.ensures.value (search rules)
    ∙ past_phase _ _ _ _ _ _ _ c.lifting-first.ensures _ _ _
    c.count_in-one.ensures.value (search rules)) in
    record { value = known.0; index_lt_n = known.1 }

pub returns : goal.returns
unfolding plan_turns
returns c =
    let k = c.args.course in
    let known =
    turn_known k.kinds.now k.starts.now k.middles.now k.finals.now k.lens.now k.limit k.old k.n k.columned.some_old c.args.made _
    (c.turn_later.ensures
    ∙ past_phase _ _ _ _ _ _ _ c.packing-second.ensures _ _ _ c.count_in-two.ensures.value (search rules)
    ∙ past_phase _ _ _ _ _ _ _ c.lifting-first.ensures _ _ _
    c.count_in-one.ensures.value (search rules)) in
    record { value = known.0; index_lt_n = known.1 }
