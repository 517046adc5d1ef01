-- `layout_by` meets its contract, part by part.
use native.Mathlib.Omega.{arith}
use lib.ListN.{length}
use lib.Seq.{length-take-le}
use Rattle.rules.specs.Columns.{of_payload, of_overflow}
use Rattle.layout.proofs.Counts.{tally_at}
use Rattle.layout.proofs.Taken.{tally_taken}
use borrow.Author.Rules.{rules}
use Rattle.layout.proofs.layout_by.Goals as goal

pub returns-clause-value : goal.returns-clause-value
returns-clause-value c =
    let args = c.args in
    let n = length args.lens.now in
    rw (
      c.middles_of.ensures,
      c.from.ensures,
      c.from-2.ensures,
      c.from-3.ensures,
      c.finals_of.ensures,
      c.tally-before.ensures,
      c.tally-volumes.ensures,
      length-take-le args.old args.lens.now (search rules),
      tally_taken args.lens.now args.old (search rules) args.kinds,
      tally_at args.kinds args.lens.now args.old of_overflow (omega arith),
      tally_at args.kinds args.lens.now n of_overflow (omega arith),
      tally_at args.kinds args.lens.now n of_payload (omega arith),
      c.goal_of-goal.ensures.value,
      c.requires.slots_value,
    )
