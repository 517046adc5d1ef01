-- `read_answer` meets its contract: the store's tests, then the name's.
use mathlib.Core.Path.{ap, ◌∙◌}
use Rattle.std.proofs.lemmas.Result.{err_from_is_err_and}
use Rattle.rules.specs.Calls.{store_tests}
use Rattle.state.specs.Model.{model_of}
use Rattle.refusals.specs.Tests.{passed}
use Rattle.refusals.proofs.Firsts.{same, refusing, passing}
use Rattle.refusals.proofs.read_answer.Goals as goal

pub returns-in_err-store_answer : goal.returns-in_err-store_answer
returns-in_err-store_answer c =
    let p = err_from_is_err_and c.from_residual.result c.from_residual.ensures.1 in
    rw (p.1, p.2) (refusing _ (store_tests (model_of _) _) _ c.in_err-store_answer.ensures)

pub returns : goal.returns
returns c = (rw (same _ _ c.in_ok-store_answer.ensures) at c.name_answer.ensures) ∙ ap (passed _) ((passing _ _ _ c.in_ok-store_answer.ensures).later _)
