-- `balance::enough_from` meets its contract. The invariant: the sums up to the class reached, and what is left of the scan over the
-- classes above comes to the whole of it. A class without enough below it stops the scan if it is clean.
use Rattle.rules.specs.Regions.{col}
use Rattle.sound_rest.specs.Rest.{regions_of, enough_from}
use Rattle.sound_rest.proofs.Weights.{Balancing}
use Rattle.sound_rest.proofs.balance.enough_from.Given as goal

abbrev pub invariant-loop-next : goal.invariant-loop-next
invariant-loop-next l =
    let t = regions_of l.regions in
    Balancing t l.lives l.class (enough_from t (col l.lives) l.class) l.has l.asked l.next
