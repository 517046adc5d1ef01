-- `running::plan_fits` meets its contract: the layout's numbers and columns are those of the plan.
use mathlib.Core.Path.{◌≡◌, refl, sym, ◌∙◌}
use Rattle.state.specs.Tests.{new_at, layout_in}
use Rattle.state.proofs.Ready.{plan_by_lem}
use Rattle.state.proofs.running.plan_fits.Goals as goal

pub returns-else-new_at : goal.returns-else-new_at
returns-else-new_at c =
    let args = c.args in
    let new-at = c.new_at in
    let n : new-at.result ≡ new_at args.s _ (layout_in args.s _).next = rw c.layout_in-l.ensures.value at
    new-at.ensures in
    sym (plan_by_lem _ _ c.requires _ refl ∙ rw (sym n ∙ c.if-new_at.false) (sym c.if-new_at.false))

pub returns-then-new_at : goal.returns-then-new_at
returns-then-new_at c =
    let args = c.args in
    let layout-in-said = c.layout_in-l.ensures in
    let new-at = c.new_at in
    let s = args.s in
    let old = args.old in
    let n : new-at.result ≡ new_at s old (layout_in s old).next = rw layout-in-said.value at new-at.ensures in
    c.may_be_due.ensures ∙ sym (plan_by_lem s old c.requires _
    (c.ahead_by.ensures.value ∙ rw layout-in-said.value) ∙ rw (sym n ∙ c.if-new_at.true))
