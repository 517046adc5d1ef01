-- `segments::room_for` meets its contract. The invariant: what is left of the search comes to its goal.
use Prim.Native.Nat.{suc}
use Rattle.rules.specs.House.{share}
use Rattle.leaves.specs.Room.{some_room}
use Rattle.leaves.proofs.Leaves.{Searching, of_room}
use Rattle.leaves.proofs.segments.room_for.Given as goal

abbrev pub invariant-loop-j : goal.invariant-loop-j
invariant-loop-j l = Searching (of_room share l.sizes l.useds l.len) (suc l.j-end) (some_room share l.sizes l.useds l.class l.len) l.j
