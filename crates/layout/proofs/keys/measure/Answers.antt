use Rattle.layout.specs.Layout.{classes_of}
use native.Mathlib.Omega.{arith}
use Rattle.layout.proofs.Fills.{fill_start, fill_next, fill_end}
use Rattle.layout.proofs.Longest.{longest_start, longest_next}
use borrow.Author.Rules.{rules}
use Rattle.layout.proofs.keys.measure.Goals as goal

pub loop-i-init : goal.loop-i-init
loop-i-init c = (fill_start _ _ _ _, longest_start _)

pub loop-i-preserved : goal.loop-i-preserved
loop-i-preserved c =
    let loop = c.loop-i in (
      fill_next _ _ _ _ loop.invariant.0 _ (search rules) (search rules) c.class_of.ensures,
      longest_next _ loop.invariant.1 (omega (arith, c.type_inv.lens loop.i)) (rw c.from.ensures at c.max-longest.ensures),
    )

pub returns-clause-classes_value : goal.returns-clause-classes_value
unfolding classes_of
returns-clause-classes_value c = fill_end _ _ _ _ c.loop-i.invariant.0 (search rules)
