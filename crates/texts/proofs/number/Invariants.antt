-- `texts::number` meets its contract: what is spelled so far and the digits left spell the whole word (`Spelling`).
use Rattle.texts.proofs.Spelling.{Spelling}
use Rattle.texts.proofs.number.Given as goal

abbrev pub invariant-loop-b : goal.invariant-loop-b
invariant-loop-b l = Spelling l.word l.value l.b-index
