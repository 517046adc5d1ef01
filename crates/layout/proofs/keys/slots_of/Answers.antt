use Rattle.layout.specs.Layout.{slots_of}
use Rattle.layout.proofs.Fills.{fill_start, fill_end}
use borrow.Author.Rules.{rules}
use Rattle.layout.proofs.keys.slots_of.Goals as goal

pub loop-i-init : goal.loop-i-init
loop-i-init c = fill_start _ _ _ _

pub returns : goal.returns
unfolding slots_of
returns c = fill_end _ _ _ _ c.loop-i.invariant (search rules)
