-- `mapview::read_map` meets its contract: each turn but the last reads a byte at least, so what is left of the buffer falls.
use Rattle.std.proofs.Common.{length, ◌-◌, ◌≤◌, ◌≡◌}
use Rattle.mapview.proofs.read_map.Given as goal

abbrev pub invariant-loop-have : goal.invariant-loop-have
invariant-loop-have g l = (length l.buf ≡ length l.initial.buf) × (l.have ≤ length l.buf)

abbrev pub decreases-loop-have : goal.decreases-loop-have
decreases-loop-have g l = length l.buf - l.have
