use Rattle.layout.specs.Layout.{kinds_of}
use Rattle.layout.proofs.Fills.{fill_start, fill_next, fill_end}
use borrow.Author.Rules.{rules}
use Rattle.layout.proofs.keys.kinds_of.Goals as goal

pub loop-i-init : goal.loop-i-init
loop-i-init c = fill_start _ _ _ _

pub loop-i-preserved : goal.loop-i-preserved
loop-i-preserved c = fill_next _ _ _ _ c.loop-i.invariant _ (search rules) (search rules) c.old_kind.ensures

pub returns : goal.returns
unfolding kinds_of
returns c = fill_end _ _ _ _ c.loop-i.invariant (search rules)
