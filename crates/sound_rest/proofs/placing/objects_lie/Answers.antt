use mathlib.Core.Path.{sym, ◌∙◌}
use mathlib.Core.Logic.{inl, inr}
use borrow.Author.Tests.{le-leb, lt-leb}
use Rattle.rules.specs.House.{share}
use Rattle.sound_rest.specs.Rest.{regions_of}
use Rattle.sound_rest.proofs.Lying.{lie_listed, lie_none}
use borrow.Author.Rules.{rules}
use Rattle.sound_rest.proofs.placing.objects_lie.Goals as goal
use Rattle.sound_rest.proofs.placing.objects_lie.Goals.{then-place-edge-via-then-place-edge, then-place-edge-via-else-place-edge+then-not-lies_well}

pub returns-then-place-edge : goal.returns-then-place-edge
returns-then-place-edge c = λ names.
    let args = c.args in
    let loop = c.loop-at in
    let at = c.in-Some.at.now in
    let steps = c.in-Some.ensures.steps in
    let left = rw (steps.0, steps.1) at loop.invariant in
    elim c.then-place-edge.branch [
      | then-place-edge-via-then-place-edge w ↦ rw (lt-leb loop.edge at (search rules)) at left
      | then-place-edge-via-else-place-edge+then-not-lies_well w ↦
          rw (le-leb loop.edge at (search rules), sym w.lies_well.ensures ∙ w.if-not-lies_well.true) at left
    ]
    ∙ lie_listed share (regions_of args.regions.now) 0 names args.places.now args.lens.now c.requires

pub loop-at-preserved : goal.loop-at-preserved
loop-at-preserved c =
    let loop = c.loop-at in
    let steps = c.in-Some.ensures.steps in
    rw (c.from-place.ensures, c.from.ensures) (rw (
      steps.0,
      steps.1,
      le-leb loop.edge c.in-Some.at.now (search rules),
      sym c.lies_well.ensures ∙ c.if-not-lies_well.false,
    ) at loop.invariant)

pub returns : goal.returns
returns c = λ names.
    let args = c.args in
    let t = regions_of args.regions.now in
    lie_none share t _ _ _ (elim c.in-None.ensures.steps [ inl e ↦ inl e.1.0 | inr e ↦ inr e.1.0 ])
    ∙ c.loop-at.invariant
    ∙ lie_listed share t 0 names args.places.now args.lens.now c.requires
