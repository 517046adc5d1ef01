-- `streams::answer_piece` meets its contract: each turn is one part more (`Taking`).
use Rattle.std.proofs.Common.{rules}
use Rattle.streams.proofs.Taking.{taking_begun, taking_on, taking_ended, taking_full}
use Rattle.streams.proofs.answer_piece.Goals as goal

pub loop-now-init : goal.loop-now-init
loop-now-init g c = record { taking = taking_begun _; within = search rules }

pub loop-now-preserved : goal.loop-now-preserved
loop-now-preserved g c =
    let feeds = c.feed-fed.ensures in record {
      taking =
          taking_on c.loop-now.invariant.taking c.loop-now-test.true c.if-now-full.true _ _ _ feeds.0 feeds.1 c.go_on-now.ensures.value;
      within = search rules;
    }

pub returns-else-now-full-clause-value : goal.returns-else-now-full-clause-value
returns-else-now-full-clause-value g c = taking_full c.loop-now.invariant.taking c.loop-now-test.true c.if-now-full.false

pub returns-after-loop-now-clause-value : goal.returns-after-loop-now-clause-value
returns-after-loop-now-clause-value g c = taking_ended c.loop-now.invariant.taking c.loop-now-test.false
