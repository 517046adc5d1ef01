-- `keys::kinds_of` meets its contract. The invariant: the kinds of the old objects passed are filled in, and the others are of overflow.
use lib.ListN.{get_or}
use Rattle.rules.specs.House.{most_objects}
use Rattle.rules.specs.Columns.{of_overflow}
use Rattle.layout.specs.Layout.{old_kind}
use Rattle.layout.proofs.Fills.{Filling}
use Rattle.layout.proofs.keys.kinds_of.Given as goal

abbrev pub invariant-loop-i : goal.invariant-loop-i
invariant-loop-i l =
    Filling (λ k. old_kind l.sizes.column l.b (get_or l.places k 0) (get_or l.lens k 0)) l.old of_overflow most_objects l.i l.out
