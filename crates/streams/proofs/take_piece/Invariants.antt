-- `streams::take_piece` is safe and ends: there is room for an answer at each turn, so each goes on in the piece.
use Rattle.std.proofs.Common.{length, ◌-◌, ◌≤◌}
use Rattle.streams.specs.Answers.{stream_of, Within}
use Rattle.streams.proofs.Rounds.{Rounds}
use Rattle.streams.proofs.take_piece.Given as goal

abbrev pub invariant-loop-now : goal.invariant-loop-now
invariant-loop-now g l =
    let text = g.S.Answering.text in
    let begun = stream_of (text l.initial.state) l.initial.line l.initial.out l.initial.now in record {
      rounds : Rounds l.full l.piece begun (stream_of (text l.state) l.line l.out l.now);
      within : Within l.now l.line l.out;
      room : l.now.at ≤ l.full;
    }

abbrev pub decreases-loop-now : goal.decreases-loop-now
decreases-loop-now g l = length l.piece - l.now.next
