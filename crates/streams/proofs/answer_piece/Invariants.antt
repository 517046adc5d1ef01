-- `streams::answer_piece` is safe and ends: what is held stays within its buffers, and each call of `feed` moves on in the piece.
use Rattle.std.proofs.Common.{length, ◌-◌}
use Rattle.streams.specs.Answers.{stream_of, Within}
use Rattle.streams.proofs.Taking.{Taking}
use Rattle.streams.proofs.answer_piece.Given as goal

abbrev pub invariant-loop-now : goal.invariant-loop-now
invariant-loop-now g l =
    let text = g.S.Answering.text in
    let begun = stream_of (text l.initial.state) l.initial.line l.initial.out l.initial.now in record {
      taking : Taking l.full l.piece begun (stream_of (text l.state) l.line l.out l.now);
      within : Within l.now l.line l.out;
    }

abbrev pub decreases-loop-now : goal.decreases-loop-now
decreases-loop-now g l = length l.piece - l.now.next
