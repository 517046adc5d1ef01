-- `limits::limits_hold` meets its contract: the five tests in their order, each made only where those before it hold.
use mathlib.Core.Path.{◌≡◌, sym, ap, ◌∙◌}
use mathlib.Core.Logic.{inl, inr}
use mathlib.Core.Bool.{Bool, ◌&&◌}
use borrow.Author.Tests.{le-leb, lt-leb}
use Rattle.std.proofs.Math.Bool.{and_assoc}
use lib.Dec.{leb}
use lib.ListN.{length}
use Rattle.rules.specs.House.{share, most_objects, area_fits}
use Rattle.rules.specs.Columns.{listed}
use Rattle.rules.specs.Sound.{limits_hold, object_fits, names_differ, each, within_quota}
use Rattle.sound_limits.proofs.Listed.{length_listed}
use Rattle.sound_limits.proofs.Chains.{in_turn}
use Rattle.sound_limits.proofs.limits.limits_hold.Goals as goal
use Rattle.sound_limits.proofs.limits.limits_hold.Goals.{then-lens-le-OBJECTS, else-lens-le-OBJECTS, then-objects_fit, else-objects_fit}

pub returns-then-names_differ : goal.returns-then-names_differ
unfolding limits_hold
returns-then-names_differ c = λ places.
    let args = c.args in
    let n = length args.lens.now in
    let os = listed args.names.now places args.lens.now 0 n in
    let few = area_fits args.area && leb n most_objects in
    let fit : c.if-lens-le-OBJECTS.value ≡ (few && each object_fits os) = elim c.if-lens-le-OBJECTS.branch [
      | then-lens-le-OBJECTS w ↦ let t = w.if-lens-le-OBJECTS.true in
          rw (sym c.area_fits.ensures ∙ t.0, le-leb n most_objects t.1) (w.value-is ∙ w.objects_fit.ensures places)
      | else-lens-le-OBJECTS w ↦ elim w.if-lens-le-OBJECTS.either [
        | inl t ↦ rw (sym c.area_fits.ensures ∙ t.0, lt-leb n most_objects t.1) cc
        | inr t ↦ rw (sym c.area_fits.ensures ∙ t) cc
      ]
    ] in
    let differ : c.if-objects_fit.value ≡ ((few && each object_fits os) && names_differ os) = rw (← fit) (in_turn (elim c.if-objects_fit.branch [
      | then-objects_fit w ↦ inl (w.if-objects_fit.true, w.value-is ∙ (rw c.requires at w.names_differ.ensures places args.lens.now))
      | else-objects_fit w ↦ inr (w.if-objects_fit.false, w.value-is)
    ])) in
    c.within_quota.ensures args.names.now places ∙ ap (λ (b : Bool). b && within_quota share args.area os 0) (sym c.if-names_differ.true ∙ differ)
    ∙ simp and_assoc (rw length_listed)

pub returns-else-names_differ : goal.returns-else-names_differ
unfolding limits_hold
returns-else-names_differ c = λ places.
    let args = c.args in
    let n = length args.lens.now in
    let os = listed args.names.now places args.lens.now 0 n in
    let few = area_fits args.area && leb n most_objects in
    let fit : c.if-lens-le-OBJECTS.value ≡ (few && each object_fits os) = elim c.if-lens-le-OBJECTS.branch [
      | then-lens-le-OBJECTS w ↦ let t = w.if-lens-le-OBJECTS.true in
          rw (sym c.area_fits.ensures ∙ t.0, le-leb n most_objects t.1) (w.value-is ∙ w.objects_fit.ensures places)
      | else-lens-le-OBJECTS w ↦ elim w.if-lens-le-OBJECTS.either [
        | inl t ↦ rw (sym c.area_fits.ensures ∙ t.0, lt-leb n most_objects t.1) cc
        | inr t ↦ rw (sym c.area_fits.ensures ∙ t) cc
      ]
    ] in
    let differ : c.if-objects_fit.value ≡ ((few && each object_fits os) && names_differ os) = rw (← fit) (in_turn (elim c.if-objects_fit.branch [
      | then-objects_fit w ↦ inl (w.if-objects_fit.true, w.value-is ∙ (rw c.requires at w.names_differ.ensures places args.lens.now))
      | else-objects_fit w ↦ inr (w.if-objects_fit.false, w.value-is)
    ])) in
    c.if-names_differ.false ∙ ap (λ (b : Bool). b && within_quota share args.area os 0) (sym c.if-names_differ.false ∙ differ)
    ∙ simp and_assoc (rw length_listed)
