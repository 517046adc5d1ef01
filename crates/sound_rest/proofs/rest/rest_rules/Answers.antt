-- `rest::rest_rules` meets its contract: the three groups of rules in their order, each tested only where those before it hold.
use mathlib.Core.Path.{◌≡◌, sym, ap, ◌∙◌}
use mathlib.Core.Logic.{inl, inr}
use mathlib.Core.Bool.{Bool, ◌&&◌}
use lib.ListN.{length}
use Rattle.std.proofs.Math.Bool.{and_assoc}
use Rattle.rules.specs.House.{share, classes}
use Rattle.rules.specs.Columns.{listed}
use Rattle.rules.specs.Regions.{every}
use Rattle.rules.specs.Sound.{rest_rules, used_fits, lowest_fits, each, lies_well, apart_from, balanced}
use Rattle.sound_limits.proofs.Chains.{in_turn}
use Rattle.sound_rest.specs.Rest.{regions_of}
use Rattle.sound_rest.proofs.Weights.{balanced_column}
use Rattle.sound_rest.proofs.rest.rest_rules.Goals as goal
use Rattle.sound_rest.proofs.rest.rest_rules.Goals.{then-buffers_fit, else-buffers_fit}

pub returns-then-objects_lie : goal.returns-then-objects_lie
unfolding rest_rules
returns-then-objects_lie c = λ names.
    let args = c.args in
    let t = regions_of args.regions.now in
    let os = listed names args.places.now args.lens.now 0 (length args.lens.now) in
    let fit = every (used_fits share t) 1 classes && every (lowest_fits t) 1 classes in
    let lie = each (lies_well share t) os && apart_from 0 os in
    let both : c.if-buffers_fit.value ≡ (fit && lie) = rw (← c.buffers_fit.ensures) (in_turn (elim c.if-buffers_fit.branch [
      | then-buffers_fit w ↦ inl (
        w.if-buffers_fit.true,
        w.value-is ∙ w.objects_lie.ensures names,
      )
      | else-buffers_fit w ↦ inr (w.if-buffers_fit.false, w.value-is)
    ])) in
    c.balanced.ensures ∙ balanced_column t os args.deleted _ (c.live_volumes.ensures.value names args.places.now)
    ∙ ap (λ (b : Bool). b && balanced t os args.deleted) (sym c.if-objects_lie.true ∙ both) ∙ and_assoc fit lie (balanced t os args.deleted)

pub returns-else-objects_lie : goal.returns-else-objects_lie
unfolding rest_rules
returns-else-objects_lie c = λ names.
    let args = c.args in
    let t = regions_of args.regions.now in
    let os = listed names args.places.now args.lens.now 0 (length args.lens.now) in
    let fit = every (used_fits share t) 1 classes && every (lowest_fits t) 1 classes in
    let lie = each (lies_well share t) os && apart_from 0 os in
    let both : c.if-buffers_fit.value ≡ (fit && lie) = rw (← c.buffers_fit.ensures) (in_turn (elim c.if-buffers_fit.branch [
      | then-buffers_fit w ↦ inl (
        w.if-buffers_fit.true,
        w.value-is ∙ w.objects_lie.ensures names,
      )
      | else-buffers_fit w ↦ inr (w.if-buffers_fit.false, w.value-is)
    ])) in
    c.if-objects_lie.false ∙ ap (λ (b : Bool). b && balanced t os args.deleted) (sym c.if-objects_lie.false ∙ both)
    ∙ and_assoc fit lie (balanced t os args.deleted)
