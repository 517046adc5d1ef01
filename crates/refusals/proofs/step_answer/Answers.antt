-- `step_answer` meets its contract: the store's tests, then whether a checkpoint is due.
use mathlib.Core.Path.{ap, ◌∙◌}
use Rattle.std.proofs.lemmas.Result.{err_from_is_err_and}
use Rattle.rules.specs.Calls.{store_tests}
use Rattle.state.specs.Model.{model_of}
use Rattle.refusals.specs.Tests.{passed}
use Rattle.refusals.proofs.Firsts.{none, hit, miss, same, refusing, passing}
use Rattle.refusals.proofs.Known.{due_is}
use Rattle.refusals.proofs.step_answer.Goals as goal

pub returns-in_err-c : goal.returns-in_err-c
returns-in_err-c c =
    let p = err_from_is_err_and c.from_residual.result c.from_residual.ensures.1 in
    rw (p.1, p.2) (refusing _ (store_tests (model_of _) _) _ c.in_err-c.ensures)

pub returns-then-s : goal.returns-then-s
returns-then-s c = ap (passed _) (hit _ _ _ (due_is _ ∙ c.if-s.true) ∙ (passing _ _ _ c.in_ok-c.ensures).later _)

pub returns : goal.returns
returns c = rw (same _ _ c.in_ok-c.ensures) (ap (passed _) (none ∙ miss _ _ _ (due_is _ ∙ c.if-s.false) ∙ (passing _ _ _ c.in_ok-c.ensures).later _))
