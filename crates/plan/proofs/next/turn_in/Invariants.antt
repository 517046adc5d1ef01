-- `next::turn_in` meets its contract. The invariant: the turn sought is number `skip` of those left.
use Rattle.plan.specs.Turns.{order_from, cut_turns, nth_turn}
use Rattle.plan.proofs.Laws.{order_left, Sought}
use Rattle.plan.proofs.next.turn_in.Given as goal

abbrev pub invariant-loop-i : goal.invariant-loop-i
invariant-loop-i l = Sought l.from l.to l.lens l.limit l.cut
    (nth_turn (cut_turns l.from l.to l.lens l.limit l.cut 0 (order_from l.kinds l.kind l.falling l.count 0 l.count)) l.rank)
    l.skip l.room (order_left l.kinds l.kind l.falling l.count l.i)
