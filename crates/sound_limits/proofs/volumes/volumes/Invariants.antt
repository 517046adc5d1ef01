-- `volumes::volumes` meets its contract. The invariant: for every class what is counted and what is left make its volume.
use Rattle.sound_limits.proofs.Counts.{Counting}
use Rattle.sound_limits.proofs.volumes.volumes.Given as goal

abbrev pub invariant-loop-len : goal.invariant-loop-len
invariant-loop-len l = Counting l.lens l.out l.len-index
