-- `delete_answer` meets its contract: the store's tests, then whether a flush runs, then the name's.
use mathlib.Core.Path.{sym, ap, ◌∙◌}
use mathlib.Core.Bool.{not}
use Rattle.std.proofs.lemmas.Result.{err_from_is_err_and}
use Rattle.rules.specs.Calls.{store_tests}
use Rattle.state.specs.Model.{model_of}
use Rattle.refusals.specs.Tests.{passed}
use Rattle.refusals.proofs.Firsts.{hit, miss, same, refusing, passing}
use Rattle.refusals.proofs.Known.{running_is}
use Rattle.refusals.proofs.delete_answer.Goals as goal

pub returns-in_err-c : goal.returns-in_err-c
returns-in_err-c c =
    let p = err_from_is_err_and c.from_residual.result c.from_residual.ensures.1 in
    rw (p.1, p.2) (refusing _ (store_tests (model_of _) _) _ c.in_err-c.ensures)

pub returns-then-not-rests : goal.returns-then-not-rests
returns-then-not-rests c =
    ap (passed _) (hit _ _ _ (running_is _ ∙ ap not (sym c.rests.ensures ∙ c.if-not-rests.true)) ∙ (passing _ _ _ c.in_ok-c.ensures).later _)

pub returns : goal.returns
returns c =
    (rw (same _ _ c.in_ok-c.ensures) at c.name_answer.ensures)
    ∙ ap (passed _) (miss _ _ _ (running_is _ ∙ ap not (sym c.rests.ensures ∙ c.if-not-rests.false)) ∙ (passing _ _ _ c.in_ok-c.ensures).later _)
