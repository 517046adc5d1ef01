use mathlib.Core.Path.{◌∙◌, sym}
use native.Mathlib.Omega.{arith}
use borrow.Author.Rules.{rules}
use Rattle.std.proofs.lemmas.List.{length-take-le}
use Rattle.plan.proofs.Laws.{count_start, count_on, count_end, length_order}
use Rattle.plan.proofs.phases.count_in.Goals as goal

pub loop-kind-init : goal.loop-kind-init
loop-kind-init c = count_start _ _

pub overflow_add-found : goal.overflow_add-found
overflow_add-found c =
    let next = count_on _ _ c.loop-kind.invariant (search rules) _ c.from-found.ensures in
    record { fits = omega (arith, next.few, length-take-le _ _ c.requires.0, c.requires.1) }

pub loop-kind-preserved : goal.loop-kind-preserved
loop-kind-preserved c = count_on _ _ c.loop-kind.invariant (search rules) _ c.from-found.ensures

pub returns-clause-value : goal.returns-clause-value
returns-clause-value c =
    count_end _ _ c.loop-kind.invariant (search rules) ∙ sym (length_order _ _ _ _ (search rules))

pub returns-clause-upper_bound : goal.returns-clause-upper_bound
returns-clause-upper_bound c =
    omega (arith, c.loop-kind.invariant.few, c.loop-kind.auto.kind-index-end, length-take-le _ _ c.requires.0, c.requires.1)
