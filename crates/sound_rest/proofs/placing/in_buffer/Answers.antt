-- `placing::in_buffer` meets its contract: the three tests in their order.
use mathlib.Core.Path.{sym, ◌∙◌}
use native.Mathlib.Omega.{arith}
use borrow.Author.Tests.{leb-true}
use Rattle.rules.specs.House.{share}
use Rattle.sound_rest.specs.Rest.{regions_of}
use Rattle.sound_rest.proofs.Lying.{buffer_in}
use borrow.Author.Rules.{rules}
use Rattle.sound_rest.proofs.placing.in_buffer.Goals as goal
use Rattle.sound_rest.proofs.placing.in_buffer.Goals.{then-regions-j, else-regions-j}

pub returns-then-from-j : goal.returns-then-from-j
returns-then-from-j c =
    let laid = c.args.laid.now in
    let object = c.args.object in
    elim c.if-regions-j.branch [
      | then-regions-j w ↦ c.inside.ensures ∙ buffer_in share (regions_of laid.regions.now) object.at object.len _
          (omega (arith, object.classed)) laid.based (omega (arith, object.classed, leb-true _ _ (sym w.value-is ∙ c.if-from-j.true))) (search rules)
      | else-regions-j w ↦ absurd (search rules)
    ]
