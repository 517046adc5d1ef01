-- `volumes::within_quota` meets its contract: the volume and the deleted length are far below 64 bits together.
use native.Mathlib.Omega.{arith}
use mathlib.Core.List.{[]}
use lib.ListN.{length}
use Rattle.sound_limits.proofs.Listed.{volume_few}
use Rattle.sound_limits.proofs.volumes.within_quota.Goals as goal

pub overflow_add-result : goal.overflow_add-result
overflow_add-result c = omega (arith, c.volume.ensures [] [], volume_few [] [] c.args.lens.now (λ k. omega (arith, c.type_inv.lens k)) 0 (length c.args.lens.now))

pub returns : goal.returns
returns c = λ names places. rw (c.volume.ensures names places, c.from.ensures, c.from-2.ensures, c.quota.ensures)
