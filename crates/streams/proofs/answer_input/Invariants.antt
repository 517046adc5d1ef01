-- `streams::answer_input` is safe: what is held stays within its buffers.
use Rattle.std.proofs.Common.{◌≤◌}
use Rattle.streams.specs.Answers.{Within}
use Rattle.streams.proofs.answer_input.Given as goal

abbrev pub invariant-loop : goal.invariant-loop
invariant-loop g l = record { within : Within l.now l.line l.out; room : l.now.at ≤ l.full }
