-- The measure is the class number, which falls.
use Rattle.leaves.proofs.regions.Regions.+boundary.Given as goal

abbrev pub decreases-boundary : goal.decreases-boundary
decreases-boundary l = l.class
