-- `Regions::lower_reached` meets its contract. The invariant: what is left of the search comes to its goal.
use Prim.Native.Nat.{suc}
use Rattle.rules.specs.House.{classes}
use Rattle.leaves.specs.Reached.{lower_reached}
use Rattle.leaves.proofs.Leaves.{Searching, of_reached}
use Rattle.leaves.proofs.regions.Regions.lower_reached.Given as goal

abbrev pub invariant-loop-j : goal.invariant-loop-j
invariant-loop-j l = Searching (of_reached l.self.useds l.self.lowests l.class) (suc classes) (lower_reached l.self.useds l.self.lowests l.class) l.j
