-- `sizes::sizes_of` meets its contract: what is told says the rules' values.
use mathlib.Core.Path.{ap, ◌∙◌}
use Rattle.asking.specs.Asked.{told_says}
use Rattle.asking.proofs.Says.{footprint_says, volume_says}
use Rattle.sizes.proofs.sizes_of.Goals as goal

pub returns : goal.returns
returns c = record {
  footprint_value = c.amount.ensures ∙ ap (λ t. (told_says t).1) c.footprint.ensures ∙ ap (λ p. p.1) (footprint_says _);
  volume_value = c.amount-2.ensures ∙ ap (λ t. (told_says t).1) c.volume.ensures ∙ ap (λ p. p.1) (volume_says _);
}
