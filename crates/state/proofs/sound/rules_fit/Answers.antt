-- `sound::rules_fit` meets its contract: the first n of each column list the first n objects.
use native.Mathlib.Omega.{arith}
use lib.ListN.{take}
use Rattle.sound_limits.proofs.Listed.{listed_taken}
use Rattle.state.specs.Tests.{rules_in}
use Rattle.state.proofs.sound.rules_fit.Goals as goal

pub returns : goal.returns
unfolding rules_in
returns c =
    let n = c.args.n in
    let o = c.args.s.objects in
    rw (c.sizes_of.ensures, listed_taken o.names o.places o.lens n (let g = c.well_formed in omega arith))
    at (c.rest_rules.ensures (take n o.names))
