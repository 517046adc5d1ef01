-- `layout_of` meets its contract, part by part; classes, kinds and slots are in their limits.
use Rattle.layout.proofs.KeyBounds.{class_at, classes_few, kinds_few, slots_few}
use mathlib.Core.Path.{◌∙◌}
use native.Mathlib.Omega.{arith}
use Rattle.layout.specs.Layout.{layout_of}
use borrow.Author.Rules.{rules}
use Rattle.layout.proofs.layout_of.Goals as goal

pub kinds_of-kinds-requires-clause-classes_known : goal.kinds_of-kinds-requires-clause-classes_known
kinds_of-kinds-requires-clause-classes_known c j l = rw c.measure-measured.ensures.classes_value (class_at _ _ j (search rules) (omega arith))

pub slots_of-slots-requires-clause-kinds_few : goal.slots_of-slots-requires-clause-kinds_few
slots_of-slots-requires-clause-kinds_few c = kinds_few _ _ _ _ _ _ c.kinds_of-kinds.ensures

pub slots_of-slots-requires-clause-classes_few : goal.slots_of-slots-requires-clause-classes_few
slots_of-slots-requires-clause-classes_few c = classes_few _ _ _ c.measure-measured.ensures.classes_value

pub layout_by-requires-clause-kinds_few : goal.layout_by-requires-clause-kinds_few
layout_by-requires-clause-kinds_few c = kinds_few _ _ _ _ _ _ c.kinds_of-kinds.ensures

pub layout_by-requires-clause-slots_few : goal.layout_by-requires-clause-slots_few
layout_by-requires-clause-slots_few c =
    slots_few _ _ _ (kinds_few _ _ _ _ _ _ c.kinds_of-kinds.ensures) (classes_few _ _ _ c.measure-measured.ensures.classes_value) _
    c.slots_of-slots.ensures

pub returns-clause-value : goal.returns-clause-value
unfolding layout_of
returns-clause-value c = c.layout_by.ensures.value ∙ rw (
  c.limit_of-limit.ensures.value,
  c.measure-measured.ensures.longest_value.0,
  c.kinds_of-kinds.ensures,
  c.new_sizes-news.ensures,
)
