use mathlib.Core.Path.{refl}
use Prim.Native.Nat.{◌+◌, ◌*◌}
use native.Mathlib.Omega.{arith}
use borrow.Author.Rules.{rules}
use Rattle.desks.specs.Desks.{weight_from}
use Rattle.drilling.proofs.Summing.{none_left, sum_end, sum_on, sum_start, term_small, weight_next}
use Rattle.drilling.proofs.sums.weight_of.Goals as goal

pub loop-i-init : goal.loop-i-init
loop-i-init c = sum_start _ _ _

pub overflow_mul-total : goal.overflow_mul-total
overflow_mul-total c =
    let l = c.loop-i in
    omega (arith, term_small (l.i + 1) c.from.result (search rules) (omega (arith, c.type_inv.bytes l.i)))

pub overflow_add-total : goal.overflow_add-total
overflow_add-total c = omega arith

pub loop-i-preserved : goal.loop-i-preserved
loop-i-preserved c =
    let l = c.loop-i in
    sum_on l.invariant (search rules) ((l.i + 1) * c.from.result) (rw c.from.ensures (weight_next _ l.i (search rules)))
    (term_small (l.i + 1) c.from.result (search rules) (omega (arith, c.type_inv.bytes l.i)))

pub returns : goal.returns
unfolding weight_from
returns c = sum_end c.loop-i.invariant (none_left (weight_from _) _ _ refl c.loop-i-test.false)
