use borrow.Author.Rules.{rules}
use Rattle.leaves.proofs.Leaves.{start_start, start_next}
use Rattle.leaves.proofs.segments.starts.Goals as goal

pub loop-class-init : goal.loop-class-init
loop-class-init c = start_start _ _ (search rules) (search rules)

pub loop-class-preserved : goal.loop-class-preserved
loop-class-preserved c = start_next c.loop-class.invariant (search rules) (search rules) (search rules)
