-- `calls::find` meets its contract: a place and a length, or the number of the refusal.
use mathlib.Core.Path.{sym, ap, ◌∙◌}
use Rattle.replies.specs.Lines.{three}
use Rattle.desks.specs.Desks.{placed}
use Rattle.drilling.proofs.calls.find.Goals as goal

pub returns-in-Ok : goal.returns-in-Ok
returns-in-Ok c = λ buf. rw (c.from.ensures, c.from-in-Ok.ensures) (sym (ap placed (sym c.find.ensures ∙ c.in-Ok.is)))

pub returns-in-Err : goal.returns-in-Err
returns-in-Err c = λ buf. ap (λ n. three n 0 0) c.from-in-Err.ensures
    ∙ sym (ap placed (sym c.find.ensures ∙ c.in-Err.is))
