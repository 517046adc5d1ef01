-- `above_quota` meets its contract, by those of `quota` and `volume`; the sum fits, since the volume held is within the quota.
use native.Mathlib.Omega.{arith}
use Rattle.refusals.proofs.Known.{area_is, volume_most}
use Rattle.refusals.proofs.above_quota.Goals as goal

pub overflow_add-result : goal.overflow_add-result
overflow_add-result c =
    record { fits = omega (arith, c.volume.ensures, c.from.ensures, c.quota.ensures, volume_most _ c.args.c.holds, c.requires) }

pub returns : goal.returns
returns c = rw (c.volume.ensures, c.from.ensures, c.quota.ensures, area_is _)
