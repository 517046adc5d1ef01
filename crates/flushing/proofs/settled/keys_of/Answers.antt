use borrow.Author.Rules.{rules}
use Rattle.rules.proofs.ClassLaws.{class_bounds}
use Rattle.layout.proofs.Fills.{fill_start, fill_end}
use Rattle.flushing.specs.Flushing.{keys_of}
use Rattle.flushing.proofs.settled.keys_of.Goals as goal

pub loop-i-init : goal.loop-i-init
loop-i-init c = fill_start _ _ _ _

pub key_of-requires : goal.key_of-requires
key_of-requires c =
    let pre = c.requires in
    let i = c.loop-i.i in
    let fit = pre.lens_fit i c.loop-i-test.true in
    let b = class_bounds _ fit.0 fit.1 in
    (pre.kinds_few i, rw c.class_of.ensures b.0, rw c.class_of.ensures b.1)

pub returns : goal.returns
unfolding keys_of
returns c = fill_end _ _ _ _ c.loop-i.invariant (search rules)
