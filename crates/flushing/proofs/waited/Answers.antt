-- `waited` meets its contract: a flush that goes on, with nothing due.
use mathlib.Core.Path.{ap, ◌∙◌}
use borrow.Author.Rules.{rules}
use Rattle.state.specs.Model.{model_of}
use Rattle.flushing.proofs.Going.{waited_is}
use Rattle.flushing.proofs.waited.Goals as goal

pub returns : goal.returns
returns c =
    ap model_of c.went_on.ensures ∙ waited_is _ c.args.f.holds (search rules) c.args.f.runs _ (search rules)
