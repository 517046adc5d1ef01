-- `advanced` meets its contract: a flush that goes on, with one move more made and what is due behind it.
use mathlib.Core.Path.{ap, ◌∙◌}
use borrow.Author.Rules.{rules}
use Rattle.state.specs.Model.{model_of}
use Rattle.flushing.proofs.Going.{advanced_is}
use Rattle.flushing.proofs.advanced.Goals as goal

pub returns : goal.returns
returns c =
    ap model_of c.went_on.ensures
    ∙ advanced_is _ c.args.f.holds (search rules) c.args.f.runs _ _ (search rules) c.requires.due_behind
