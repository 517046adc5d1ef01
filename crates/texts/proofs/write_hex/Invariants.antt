-- `texts::write_hex` meets its contract: the digits written and those of the bytes left are those of all bytes (`Hexing`).
use Rattle.texts.proofs.Digits.{Hexing}
use Rattle.texts.proofs.write_hex.Given as goal

abbrev pub invariant-loop-i : goal.invariant-loop-i
invariant-loop-i l = Hexing l.text l.place l.i
