-- `places::move_in` meets its contract. The invariant: the moves still to be made of those left come to the goal, and so does what is left of them.
use Prim.Native.Nat.{◌-◌}
use lib.ListN.{take, length}
use Rattle.plan.specs.Turns.{order_from, moved_to}
use Rattle.plan.proofs.Laws.{order_left, Moving}
use Rattle.plan.proofs.places.move_in.Given as goal

abbrev pub invariant-loop-i : goal.invariant-loop-i
invariant-loop-i l = Moving l.to
    (moved_to l.to (take l.made (order_from l.kinds l.kind l.falling l.count 0 l.count)) l.initial.places)
    (l.made - length (order_from l.kinds l.kind l.falling l.count 0 l.count)) l.left
    (order_left l.kinds l.kind l.falling l.count l.i) l.places
