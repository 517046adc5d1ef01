-- `footprint` meets its contract: the refusal of the tests, or, once they pass, the footprint of a sound value.
use mathlib.Core.Path.{refl, ap, ◌∙◌}
use Rattle.std.specs.Prelude.{Ok, Err}
use Rattle.std.proofs.lemmas.Result.{err_from_is_err_and}
use Rattle.rules.specs.Calls.{store_tests}
use Rattle.state.specs.Model.{model_of}
use Rattle.refusals.proofs.Firsts.{same}
use Rattle.asking.proofs.Telling.{asks, allows, told_refusal, told_asked, ask_sound, footprint_told}
use Rattle.asking.proofs.footprint.Goals as goal

pub returns-in_err-ask_answer : goal.returns-in_err-ask_answer
returns-in_err-ask_answer c =
    let p = err_from_is_err_and c.from_residual.result c.from_residual.ensures.1 in
    rw (p.1, p.2) (told_refusal _ (store_tests (model_of _) _) (refl, (refl, tt)) (asks _) c.in_err-ask_answer.ensures Err _)

pub returns : goal.returns
returns c =
    let ok = allows _ (asks _) c.in_ok-ask_answer.ensures in
    ap Ok ((rw (same _ _ c.in_ok-ask_answer.ensures) at c.footprint.ensures) ∙ footprint_told _ ok) ∙ told_asked _ _ ok
