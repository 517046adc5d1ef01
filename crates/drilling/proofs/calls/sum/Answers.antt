-- `calls::sum` meets its contract: the part summed is the area opened.
use mathlib.Core.Path.{ap, ◌∙◌}
use Rattle.leaves.proofs.Parts.{part_lent}
use Rattle.replies.specs.Lines.{one}
use Rattle.desks.specs.Desks.{weight_from}
use Rattle.drilling.proofs.calls.sum.Goals as goal

pub returns : goal.returns
returns c =
    let a = c.args in
    λ buf. ap one (c.weight_of.ensures
    ∙ ap (weight_from 1) (part_lent a.area.now a.desk.opened c.min.result c.min.ensures).0)
