-- `settled::keys_of` meets its contract. The invariant: the keys of the objects passed are filled in.
use lib.ListN.{get_or}
use Rattle.rules.specs.House.{most_objects}
use Rattle.rules.specs.Classes.{class_of}
use Rattle.layout.proofs.Fills.{Filling}
use Rattle.orders.specs.Orders.{key_of}
use Rattle.flushing.proofs.settled.keys_of.Given as goal

abbrev pub invariant-loop-i : goal.invariant-loop-i
invariant-loop-i l = Filling (λ k. key_of (get_or l.kinds k 0) (class_of (get_or l.lens k 0))) l.n 0 most_objects l.i l.out
