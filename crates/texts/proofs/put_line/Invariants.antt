-- `texts::put_line` meets its contract: the numbers put so far and those left make the whole line (`Lining`).
use Rattle.texts.proofs.Fronts.{Lining}
use Rattle.texts.proofs.put_line.Given as goal

abbrev pub invariant-loop-i : goal.invariant-loop-i
invariant-loop-i l = Lining l.initial.out l.at l.numbers l.out l.next l.i
