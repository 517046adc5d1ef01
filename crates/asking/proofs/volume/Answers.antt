-- `volume` meets its contract: the refusal of the tests, or, once they pass, the volume of a sound value, which is within the quota and so fits.
use mathlib.Core.Path.{refl, ap, ◌∙◌}
use native.Mathlib.Omega.{arith}
use borrow.Author.Rules.{rules}
use Rattle.std.specs.Prelude.{Ok, Err}
use Rattle.std.proofs.lemmas.Result.{err_from_is_err_and}
use Rattle.rules.specs.Calls.{store_tests}
use Rattle.state.specs.Model.{model_of}
use Rattle.refusals.proofs.Firsts.{same}
use Rattle.asking.proofs.Telling.{asks, allows, told_refusal, told_asked, ask_sound, volume_told, volume_fits}
use Rattle.asking.proofs.volume.Goals as goal

pub returns-in_err-ask_answer : goal.returns-in_err-ask_answer
returns-in_err-ask_answer c =
    let p = err_from_is_err_and c.from_residual.result c.from_residual.ensures.1 in
    rw (p.1, p.2) (told_refusal _ (store_tests (model_of _) _) (refl, (refl, tt)) (asks _) c.in_err-ask_answer.ensures Err _)

pub overflow_cast-result : goal.overflow_cast-result
overflow_cast-result c =
    let checked = c.in_ok-ask_answer.field-0 in
    record { fits = omega (arith, c.volume.ensures, volume_fits checked.state checked.holds (search rules)) }

pub returns : goal.returns
returns c =
    let ok = allows _ (asks _) c.in_ok-ask_answer.ensures in
    ap Ok ((rw (same _ _ c.in_ok-ask_answer.ensures) at c.volume.ensures) ∙ volume_told _ ok) ∙ told_asked _ _ ok
