-- `sound::start_fits` meets its contract: the first n of each column list the first n objects.
use mathlib.Core.Path.{sym, ◌∙◌}
use native.Mathlib.Omega.{arith}
use lib.ListN.{take}
use Rattle.sound_limits.proofs.Listed.{listed_taken}
use Rattle.state.specs.Tests.{quota_in}
use Rattle.state.proofs.sound.start_fits.Goals as goal

pub returns-then-rules_fit : goal.returns-then-rules_fit
unfolding quota_in
returns-then-rules_fit c =
    let n = c.args.n in
    let o = c.args.s.objects in
    rw (sym c.rules_fit.ensures ∙ c.if-rules_fit.true)
    (rw (listed_taken o.names o.places o.lens n (let g = c.well_formed in omega arith))
    at (c.within_quota.ensures (take n o.names) (take n o.places)))
