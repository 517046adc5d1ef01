use borrow.Author.Rules.{rules}
use Rattle.texts.proofs.Digits.{hex_end, hex_on}
use Rattle.texts.proofs.write_hex.Goals as goal

pub loop-i-preserved : goal.loop-i-preserved
loop-i-preserved c = hex_on c.loop-i.invariant (search rules) _ _ c.hex_digit.ensures c.hex_digit-in-loop-i.ensures

pub returns : goal.returns
returns c = hex_end c.loop-i.invariant (search rules)
