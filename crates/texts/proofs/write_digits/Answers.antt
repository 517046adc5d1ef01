use borrow.Author.Rules.{rules}
use Rattle.texts.proofs.Digits.{write_end, write_on}
use Rattle.texts.proofs.write_digits.Goals as goal

pub loop-i-preserved : goal.loop-i-preserved
loop-i-preserved c = write_on _ c.loop-i.invariant (search rules)

pub returns : goal.returns
returns c = write_end _ c.loop-i.invariant (search rules)
