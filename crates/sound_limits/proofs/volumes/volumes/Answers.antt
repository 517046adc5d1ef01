use native.Mathlib.Omega.{arith}
use Rattle.sound_limits.proofs.Counts.{count_next, count_end}
use borrow.Author.Rules.{rules}
use Rattle.sound_limits.proofs.volumes.volumes.Goals as goal

pub loop-len-preserved : goal.loop-len-preserved
loop-len-preserved c =
    let loop = c.loop-len in
    count_next loop.invariant (search rules) (omega (arith, c.type_inv.lens loop.len-index)) c.count.ensures

pub returns-clause-value : goal.returns-clause-value
returns-clause-value c = count_end c.loop-len.invariant (search rules)
