use borrow.Author.Rules.{rules}
use Rattle.leaves.proofs.Leaves.{top_here, top_next, top_end}
use Rattle.leaves.proofs.segments.top_class.Goals as goal

pub returns-then-sizes-class-gt0-clause-value : goal.returns-then-sizes-class-gt0-clause-value
returns-then-sizes-class-gt0-clause-value c = top_here c.loop-class.invariant (search rules) (search rules)

pub loop-class-preserved : goal.loop-class-preserved
loop-class-preserved c = top_next c.loop-class.invariant (search rules) (search rules)

pub returns-clause-value : goal.returns-clause-value
returns-clause-value c = top_end c.loop-class.invariant (search rules)
