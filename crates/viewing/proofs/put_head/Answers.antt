-- `viewing::put_head` meets its contract: a line of two numbers, which has room (`head_short`).
use native.Mathlib.Omega.{arith}
use Rattle.viewing.proofs.Puts.{head_short}
use Rattle.viewing.proofs.put_head.Goals as goal

pub put_line-requires : goal.put_line-requires
put_line-requires c = rw c.from.ensures (omega (arith, head_short c.args.answer c.args.count (omega arith)))

pub returns-clause-within : goal.returns-clause-within
returns-clause-within c =
    let put = rw c.from.ensures at c.put_line.ensures in
    omega (arith, put.ends, head_short c.args.answer c.args.count (omega arith))
