-- `texts::write_digits` meets its contract: the digits of the rest and those written are those of the number (`Writing`).
use lib.ListN.{length}
use Rattle.texts.proofs.Digits.{Writing}
use Rattle.texts.proofs.write_digits.Given as goal

abbrev pub invariant-loop-i : goal.invariant-loop-i
invariant-loop-i l = Writing l.n (length l.initial.place) l.place l.i l.rest
