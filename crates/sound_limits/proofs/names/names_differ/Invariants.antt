-- `names::names_differ` meets its contract. The invariant: what is left of the scan along the order by name comes to the whole of it.
use lib.ListN.{length}
use Rattle.sound_limits.proofs.Rising.{Rising}
use Rattle.sound_limits.proofs.names.names_differ.Given as goal

abbrev pub invariant-loop-i : goal.invariant-loop-i
invariant-loop-i l = Rising l.names (length l.names) l.order l.i
