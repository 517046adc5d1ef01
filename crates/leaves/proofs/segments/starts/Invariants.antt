-- `segments::starts` meets its contract. The invariant: the starts up to that of the region reached are written.
use Rattle.leaves.proofs.Leaves.{Starting}
use Rattle.leaves.proofs.segments.starts.Given as goal

abbrev pub invariant-loop-class : goal.invariant-loop-class
invariant-loop-class l = Starting l.sizes l.out l.class
