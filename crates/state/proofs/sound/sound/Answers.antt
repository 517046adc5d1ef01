-- `sound::sound` meets its contract: the limits, and then what is asked at rest or in a flush.
use mathlib.Core.Path.{sym, ◌∙◌}
use native.Mathlib.Omega.{arith}
use Rattle.state.specs.Tests.{all_in}
use Rattle.state.proofs.Cases.{sound_by}
use Rattle.state.proofs.Ready.{count_few}
use Rattle.state.proofs.sound.sound.Goals as goal

pub returns-else-limits_fit : goal.returns-else-limits_fit
unfolding all_in
returns-else-limits_fit c = sym (sound_by _ ∙ rw (sym c.limits_fit.ensures ∙ c.if-limits_fit.false) (sym c.if-limits_fit.false))

pub rules_fit-requires : goal.rules_fit-requires
rules_fit-requires c = omega (
  arith,
  count_few _ (sym c.limits_fit.ensures ∙ c.if-limits_fit.true),
)

pub returns-then-rests : goal.returns-then-rests
unfolding all_in
returns-then-rests c = c.rules_fit.ensures ∙ sym (sound_by _ ∙ rw (
  sym c.limits_fit.ensures ∙ c.if-limits_fit.true,
  sym c.rests.ensures ∙ c.if-rests.true,
))

pub returns-else-rests : goal.returns-else-rests
unfolding all_in
returns-else-rests c = c.request_fits.ensures ∙ sym (sound_by _ ∙ rw (
  sym c.limits_fit.ensures ∙ c.if-limits_fit.true,
  sym c.rests.ensures ∙ c.if-rests.false,
))
