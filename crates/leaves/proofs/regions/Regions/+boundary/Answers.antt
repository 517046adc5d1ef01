-- `Regions::boundary` meets its contract: from a lower class that is reached the boundary is the same, and where none is reached
-- the class is clean.
use mathlib.Core.Path.{sym, ◌∙◌}
use borrow.Author.Rules.{rules}
use Rattle.rules.proofs.Boundary.{boundary_one}
use Rattle.leaves.proofs.Again.{boundary_again, boundary_end}
use Rattle.leaves.proofs.regions.Regions.+boundary.Goals as goal

pub returns-then-class-le1 : goal.returns-then-class-le1
returns-then-class-le1 t c = sym (boundary_one _ _ _ (search rules))

pub returns-then-low-class : goal.returns-then-low-class
returns-then-low-class t c = c.boundary.ensures ∙ rw c.lower_reached-low.ensures (boundary_again _ _ _)

pub returns : goal.returns
returns t c = sym (boundary_end _ _ _ (search rules) (search rules))
