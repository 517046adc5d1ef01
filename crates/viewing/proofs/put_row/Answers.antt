-- `viewing::put_row` meets its contract: a line of the three numbers of an entry, which has room (`row_short`).
use native.Mathlib.Omega.{arith}
use Rattle.viewing.proofs.Puts.{row_short}
use Rattle.viewing.proofs.put_row.Goals as goal

pub put_line-requires : goal.put_line-requires
put_line-requires c = omega (arith, row_short c.from-name.result c.from-at_byte.result c.from-len.result (omega arith) (omega arith) (omega arith))

pub returns-clause-within : goal.returns-clause-within
returns-clause-within c =
    omega (
      arith,
      c.put_line.ensures.ends,
      row_short c.from-name.result c.from-at_byte.result c.from-len.result (omega arith) (omega arith) (omega arith),
    )
