-- `maps::bisect_in` meets its contract: what is left between the bounds has the answer of the whole (`Halving`).
-- The middle name is the one asked for, or shows which half can hold it.
use Prim.Native.Nat.{◌-◌}
use Rattle.maps.proofs.Halves.{Halving}
use Rattle.maps.proofs.bisect_in.Given as goal

abbrev pub invariant-loop-lo : goal.invariant-loop-lo
invariant-loop-lo l = Halving l.bytes l.x l.n l.lo l.hi

abbrev pub decreases-loop-lo : goal.decreases-loop-lo
decreases-loop-lo l = l.hi - l.lo
