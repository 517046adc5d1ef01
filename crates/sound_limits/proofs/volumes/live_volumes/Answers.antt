-- `volumes::live_volumes` meets its contract: the deleted length is one length more that is counted.
use Rattle.rules.specs.Columns.{listed}
use Rattle.sound_limits.proofs.Counts.{live_column}
use Rattle.sound_limits.proofs.volumes.live_volumes.Goals as goal

pub returns-clause-value : goal.returns-clause-value
returns-clause-value c = λ names places. live_column (listed names places _ 0 _) _ (c.volumes-out.ensures.value names places) c.count.ensures
