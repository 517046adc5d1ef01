-- `keys::measure` meets its contract. The invariant: the classes of the objects passed are filled in, and the longest of them is found.
use lib.ListN.{length, get_or}
use Rattle.rules.specs.House.{most_objects}
use Rattle.rules.specs.Classes.{class_of}
use Rattle.layout.proofs.Fills.{Filling}
use Rattle.layout.proofs.Longest.{Longest}
use Rattle.layout.proofs.keys.measure.Given as goal

abbrev pub invariant-loop-i : goal.invariant-loop-i
invariant-loop-i l =
    Filling (λ k. class_of (get_or l.lens k 0)) (length l.lens) 0 most_objects l.i l.classes × Longest l.lens l.i l.longest
