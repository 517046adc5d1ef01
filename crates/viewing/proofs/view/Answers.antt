use native.Mathlib.Omega.{arith}
use borrow.Author.Rules.{rules}
use Rattle.viewing.proofs.Rows.{count_within, rows_start, rows_on, rows_end}
use Rattle.viewing.proofs.view.Goals as goal

pub put_head-at-requires : goal.put_head-at-requires
put_head-at-requires c =
    let args = c.args in
    (search rules, omega (arith, (count_within args.area args.bytes.now).0, c.count_in-n.ensures))

pub loop-i-init : goal.loop-i-init
loop-i-init c = rows_start c.args.area c.count_in-n.ensures c.put_head-at.ensures.within

pub loop-i-preserved : goal.loop-i-preserved
loop-i-preserved c = rows_on c.loop-i.invariant c.loop-i-test.true c.put_row-at.ensures.fronted c.put_row-at.ensures.within

pub returns-clause-fronted : goal.returns-clause-fronted
returns-clause-fronted c =
    (rows_end c.args.area c.count_in-n.ensures (rw c.open_answer.ensures at c.put_head-at.ensures.fronted) c.loop-i.invariant c.loop-i-test.false).0
