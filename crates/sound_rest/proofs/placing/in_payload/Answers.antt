-- `placing::in_payload` meets its contract: no class is beyond one past the last, so its start stands in the column.
use mathlib.Core.Path.{◌∙◌}
use native.Mathlib.Omega.{arith}
use native.Mathlib.Nat.{add-zero}
use Rattle.rules.specs.House.{share}
use Rattle.rules.proofs.ClassLaws.{class_few}
use Rattle.sound_rest.proofs.Lying.{base_at}
use Rattle.sound_rest.proofs.placing.in_payload.Goals as goal

pub bounds-laid-k : goal.bounds-laid-k
bounds-laid-k c = let object = c.args.object in omega (arith, object.classed, class_few object.len)

pub returns : goal.returns
returns c =
    let laid = c.args.laid.now in
    let object = c.args.object in
    c.inside.ensures ∙ rw (
      c.entry_at.ensures,
      c.from-k.ensures,
      object.classed,
      base_at share laid.regions.now.sizes _ laid.based (class_few object.len),
      add-zero,
    )
