-- `segments::top_class` meets its contract. The invariant: no class from `class` on has a payload, so what is left comes to the top class.
use Prim.Native.Nat.{◌-◌}
use Rattle.leaves.proofs.Leaves.{Topping}
use Rattle.leaves.proofs.segments.top_class.Given as goal

abbrev pub invariant-loop-class : goal.invariant-loop-class
invariant-loop-class l = Topping l.sizes (l.class - 1)
