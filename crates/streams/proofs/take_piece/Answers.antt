-- `streams::take_piece` meets its contract: each turn is one round more (`Rounds`).
use Rattle.std.proofs.Common.{arith, rules}
use Rattle.std.proofs.lemmas.Bool.{lt-ltb, le-ltb}
use Rattle.streams.proofs.Taking.{goes_on}
use Rattle.streams.proofs.Rounds.{rounds_begun, rounds_on, rounds_ended}
use Rattle.streams.proofs.take_piece.Goals as goal

pub loop-now-init : goal.loop-now-init
loop-now-init g c = record { rounds = rounds_begun _; within = search rules; room = search rules }

pub loop-now-preserved-then-full-now : goal.loop-now-preserved-then-full-now
loop-now-preserved-then-full-now g c =
    let on = rounds_on c.loop-now.invariant.rounds c.loop-now-test.true c.loop-now.invariant.room _ c.answer_piece-now.ensures.value in
    record { rounds = rw (lt-ltb _ _ c.if-full-now.true) at on; within = search rules; room = search rules }

pub loop-now-preserved : goal.loop-now-preserved
loop-now-preserved g c =
    let on = rounds_on c.loop-now.invariant.rounds c.loop-now-test.true c.loop-now.invariant.room _ c.answer_piece-now.ensures.value in
    record { rounds = rw (le-ltb _ _ c.if-full-now.false) at on; within = search rules; room = search rules }

pub loop-now-smaller-then-full-now : goal.loop-now-smaller-then-full-now
loop-now-smaller-then-full-now g c =
    omega (arith, goes_on _ _ _ _ c.loop-now-test.true c.loop-now.invariant.room c.answer_piece-now.ensures.value)

pub loop-now-smaller : goal.loop-now-smaller
loop-now-smaller g c =
    omega (arith, goes_on _ _ _ _ c.loop-now-test.true c.loop-now.invariant.room c.answer_piece-now.ensures.value)

pub returns-clause-value : goal.returns-clause-value
returns-clause-value g c = rounds_ended c.loop-now.invariant.rounds c.loop-now-test.false
