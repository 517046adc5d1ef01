-- `deletes::dropping` meets its contract: the flush begins as the rules say.
use mathlib.Core.Path.{ap, ◌∙◌}
use Rattle.state.specs.Model.{model_of}
use Rattle.requests.proofs.Denoted.{boundary_in_lem, drop_model}
use Rattle.requests.proofs.deletes.dropping.Goals as goal

pub begun-requires : goal.begun-requires
begun-requires c =
    rw c.boundary_for.ensures (rw (boundary_in_lem _ _) at c.requires.ready)

pub returns : goal.returns
returns c =
    let pre = c.requires in
    ap model_of c.begun.ensures ∙ rw (boundary_in_lem _ _, c.boundary_for.ensures)
    (drop_model _ pre.at_rest.0 _ _ (rw (boundary_in_lem _ _) at pre.ready.least) pre.at_rest.1)
