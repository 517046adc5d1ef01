-- `maps::count_in` meets its contract: a map that is accepted is done, and has a head to read the count from.
use native.Mathlib.Omega.{arith}
use Rattle.maps.proofs.Opening.{count_long, count_none}
use Rattle.maps.proofs.count_in.Goals as goal

pub word-requires : goal.word-requires
word-requires c = omega (arith, count_long _ _ _ c.open_answer.ensures c.in-Done.is)

pub returns-in_default : goal.returns-in_default
returns-in_default c = count_none _ _ _ c.open_answer.ensures c.in_default.not-Done
