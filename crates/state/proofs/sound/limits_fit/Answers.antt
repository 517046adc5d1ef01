-- `sound::limits_fit` meets its contract: as much of each column as there are objects lists the objects.
use native.Mathlib.Omega.{arith}
use lib.ListN.{take}
use Rattle.sound_limits.proofs.Listed.{listed_taken}
use Rattle.state.specs.Tests.{limits_in}
use Rattle.state.proofs.sound.limits_fit.Goals as goal

pub returns-then-s-le-OBJECTS : goal.returns-then-s-le-OBJECTS
unfolding limits_in
returns-then-s-le-OBJECTS c =
    let s = c.args.s in
    let o = s.objects in
    rw (listed_taken o.names o.places o.lens s.count (let g = c.well_formed in omega arith))
    at (c.limits_hold.ensures (take s.count o.places))
