-- `keys::slots_of` meets its contract. The invariant: the slots of the objects passed are filled in.
use Rattle.layout.specs.Layout.{slot_of}
use lib.ListN.{get_or}
use Rattle.rules.specs.House.{most_objects}
use Rattle.layout.proofs.Fills.{Filling}
use Rattle.layout.proofs.keys.slots_of.Given as goal

abbrev pub invariant-loop-i : goal.invariant-loop-i
invariant-loop-i l = Filling (λ k. slot_of (get_or l.kinds k 0) (get_or l.class k 0)) l.n 0 most_objects l.i l.out
