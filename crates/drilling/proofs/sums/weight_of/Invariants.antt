-- `sums::weight_of` meets its contract: the total and the weight of the bytes yet to come are the whole weight.
use Prim.Native.Nat.{◌*◌}
use lib.ListN.{length}
use Rattle.rules.specs.House.{most_area}
use Rattle.drilling.proofs.Summing.{Summing, weight_at}
use Rattle.drilling.proofs.sums.weight_of.Given as goal

abbrev pub invariant-loop-i : goal.invariant-loop-i
invariant-loop-i l = Summing (weight_at l.bytes) (most_area * 255) (length l.bytes) l.total l.i
