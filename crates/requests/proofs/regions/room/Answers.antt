-- `regions::room` meets its contract: the buffer that is found is the rules', and where none is found they say 0.
use mathlib.Core.Path.{◌≡◌, sym}
use mathlib.Core.List.{List}
use Prim.Native.Nat.{ℕ}
use Rattle.std.specs.Prelude.{Option, None, Some, unwrap_or}
use Rattle.rules.specs.House.{share}
use Rattle.rules.specs.Placing.{room_for}
use Rattle.leaves.specs.Room.{some_room}
use Rattle.leaves.proofs.Room.{room_some, room_none}
use Rattle.requests.proofs.regions.room.Goals as goal

by_rule : (q : ℕ) (sizes useds : List ℕ) (n c : ℕ) (found : Option ℕ) → some_room q sizes useds c n ≡ found
    → unwrap_or found 0 ≡ room_for q sizes useds c n
by_rule q sizes useds n c None e = room_none q sizes useds n c e
by_rule q sizes useds n c (Some i) e = (room_some q sizes useds n c i e).0

pub returns-clause-by_rule : goal.returns-clause-by_rule
returns-clause-by_rule c =
    let found = by_rule share c.sizes_of.result c.args.t.useds c.args.len c.class_of.result c.room_for.result (sym c.room_for.ensures) in
    rw (c.sizes_of.ensures, c.class_of.ensures) at found
