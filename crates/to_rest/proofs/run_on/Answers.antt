-- `to_rest::run_on` meets its contract: a run that starts at rest is over (`rest_over`); any other is made.
use mathlib.Core.Path.{ap, ◌∙◌}
use Rattle.store.specs.Served.{model}
use Rattle.rules.specs.Answers.{number_of}
use Rattle.to_rest.specs.Values.{ran_in}
use Rattle.to_rest.specs.declared.Ran.{Ran}
use Rattle.to_rest.proofs.Onward.{rest_over}
use Rattle.to_rest.proofs.run_on.Goals as goal

pub returns-in-Done : goal.returns-in-Done
returns-in-Done c =
    let a = c.args in
    ap (λ (x : Ran). ran_in x a.area.now) c.starting.ensures
    ∙ rest_over (model a.begun.store) a.area.now a.begun.answer (c.requires (ap number_of c.in-Done.is))
