-- `viewing::view` meets its contract. The loop's invariant: the rows of the first i entries stand behind the head (`Rowing`).
use Rattle.viewing.proofs.Rows.{Rowing}
use Rattle.viewing.proofs.view.Given as goal

abbrev pub invariant-loop-i : goal.invariant-loop-i
invariant-loop-i l = Rowing l.bytes l.n l.initial.out l.initial.at l.out l.at l.i
