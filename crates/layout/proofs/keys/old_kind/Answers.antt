-- `keys::old_kind` meets its contract: the table says where the regions start.
use mathlib.Core.Path.{◌∙◌}
use native.Mathlib.Omega.{arith}
use Rattle.rules.proofs.ClassLaws.{class_few}
use Rattle.layout.proofs.Spans.{starts_few, kind_below, kind_above}
use borrow.Author.Rules.{rules}
use Rattle.layout.proofs.keys.old_kind.Goals as goal

pub returns-then-from-starts : goal.returns-then-from-starts
returns-then-from-starts c =
    let args = c.args in
    kind_below args.sizes.now.column c.requires.starts_value args.b args.at args.len (search rules)
    (rw (c.from.ensures, c.from-2.ensures) at c.if-from-starts.true)

pub bounds-starts-class : goal.bounds-starts-class
bounds-starts-class c = omega (arith, class_few c.args.len)

pub flushed_kind-requires : goal.flushed_kind-requires
flushed_kind-requires c =
    let args = c.args in
    let pre = c.requires in
    omega (arith, starts_few args.sizes.now.column args.sizes.now.small args.starts.now pre.starts_value c.from-class.result)

pub returns : goal.returns
returns c =
    let args = c.args in
    let pre = c.requires in
    kind_above args.sizes.now.column pre.starts_value args.b args.at args.len (search rules) (rw (c.from.ensures, c.from-2.ensures) at c.if-from-starts.false)
    (c.from-class.ensures ∙ pre.b_le_classes.1) c.entry_at.ensures c.flushed_kind.ensures
