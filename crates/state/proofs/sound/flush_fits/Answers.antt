-- `sound::flush_fits` meets its contract: the three tests in their order, and what the first two show is what the third asks for.
use mathlib.Core.Path.{sym, ◌∙◌}
use native.Mathlib.Omega.{arith}
use borrow.Author.Rules.{rules}
use Rattle.rules.proofs.Lists.{clash}
use Rattle.state.proofs.Ready.{count_few, ready}
use Rattle.state.proofs.sound.flush_fits.Goals as goal
use Rattle.state.proofs.sound.flush_fits.Goals.{then-boundary_fits, else-boundary_fits}

pub start_fits-requires : goal.start_fits-requires
start_fits-requires c = omega (arith, c.requires.le_count.0, count_few _ c.requires.limits)

pub plan_fits-requires : goal.plan_fits-requires
plan_fits-requires c =
    let p = c.requires in
    elim c.if-boundary_fits.branch [
      | then-boundary_fits w ↦ ready _ _ _ p.limits p.le_count.0 p.le_count.1 p.le_count.2 (let g = c.well_formed in search rules)
          (sym c.boundary_fits.ensures ∙ w.if-boundary_fits.true)
          (sym w.start_fits.ensures ∙ sym w.value-is ∙ c.if-start_fits.true)
      | else-boundary_fits w ↦ absurd (clash c.if-start_fits.true (w.value-is ∙ w.if-boundary_fits.false))
    ]
