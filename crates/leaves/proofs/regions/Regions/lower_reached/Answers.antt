use mathlib.Core.Path.{sym, ◌∙◌}
use borrow.Author.Rules.{rules}
use Rattle.leaves.proofs.Leaves.{reached_start, found}
use Rattle.leaves.proofs.regions.Regions.lower_reached.Goals as goal

pub loop-j-init : goal.loop-j-init
loop-j-init c = reached_start _ _ _

pub returns-then-reaches : goal.returns-then-reaches
returns-then-reaches c =
    found c.loop-j.invariant (search rules) (sym c.reaches.ensures ∙ c.if-reaches.true)
