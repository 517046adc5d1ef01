-- `deletes::noted` meets its contract: the value at rest with the regions entered.
use mathlib.Core.Path.{◌∙◌}
use Rattle.state.proofs.Cases.{model_rest}
use Rattle.requests.proofs.Denoted.{rest_model}
use Rattle.requests.proofs.deletes.noted.Goals as goal

pub returns : goal.returns
returns c =
    let s = c.args.s in
    let pre = c.requires in
    rest_model s pre.at_rest _ _ _ ∙ rw (
      c.entered.ensures,
      c.class_of.ensures,
      model_rest s pre.at_rest,
    )
