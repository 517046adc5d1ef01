-- `find` meets its contract: the refusal of the tests, or, once they pass, the place of the name's object, the only one and so the one that is sought.
use mathlib.Core.Path.{refl, sym, ap, ◌∙◌}
use mathlib.Core.List.{◌++◌}
use Rattle.std.specs.Prelude.{Err}
use Rattle.std.proofs.lemmas.Result.{err_from_is_err_and}
use Rattle.rules.specs.Answers.{accepted}
use Rattle.rules.specs.Calls.{store_tests, name_tests}
use Rattle.state.specs.Model.{model_of}
use Rattle.refusals.proofs.Firsts.{same, is_done}
use Rattle.asking.specs.Asked.{find_told}
use Rattle.asking.proofs.Telling.{finds, allows, told_refusal, told_asked, asked, named_sought}
use Rattle.asking.proofs.find.Goals as goal

pub returns-in_err-c : goal.returns-in_err-c
unfolding find_told
returns-in_err-c c =
    let p = err_from_is_err_and c.from_residual.result c.from_residual.ensures.1 in
    rw (p.1, p.2) (told_refusal _ (store_tests (model_of _) _ ++ name_tests (model_of _) _)
    (refl, (refl, (refl, (refl, tt)))) (finds _ _) c.in_err-c.ensures Err _)

pub find_now-requires : goal.find_now-requires
find_now-requires c =
    rw (same _ _ c.in_ok-c.ensures) (asked _ _ _ (ap accepted (is_done _ c.in_ok-c.ensures))).has

pub returns : goal.returns
unfolding find_told
returns c =
    let ok = allows _ (finds _ _) c.in_ok-c.ensures in
    sym (named_sought _ _ _ (rw (same _ _ c.in_ok-c.ensures) at c.find_now.ensures.object_now)) ∙ told_asked _ _ ok
