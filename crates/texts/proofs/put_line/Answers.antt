use mathlib.Core.Logic.{inl, inr}
use borrow.Author.Rules.{rules}
use Rattle.texts.proofs.Fronts.{line_on}
use Rattle.texts.proofs.put_line.Goals as goal
use Rattle.texts.proofs.put_line.Goals.{then-i-numbers, else-i-numbers}

pub loop-i-preserved : goal.loop-i-preserved
loop-i-preserved c = elim c.if-i-numbers.branch [
  | then-i-numbers w ↦ line_on c.loop-i.invariant (search rules) _ (inl (w.if-i-numbers.true, w.by-is)) c.put_field-next.ensures
  | else-i-numbers w ↦ line_on c.loop-i.invariant (search rules) _ (inr (w.if-i-numbers.false, w.by-is)) c.put_field-next.ensures
]
