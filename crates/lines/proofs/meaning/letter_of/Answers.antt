-- `lines::meaning::letter_of` meets its contract: the first word is one byte long, or there is no letter.
use native.Mathlib.Omega.{arith}
use Rattle.lines.specs.Parts.{blank}
use Rattle.lines.proofs.Asking.{letter_here}
use Rattle.lines.proofs.Parting.{end_within}
use Rattle.lines.proofs.meaning.letter_of.Goals as goal

pub bounds-line-0 : goal.bounds-line-0
bounds-line-0 c = omega (
  arith,
  c.part_end.ensures,
  c.if-part_end-eq1.true,
  end_within blank c.args.line.now 0 (omega arith),
)

pub returns-then-part_end-eq1 : goal.returns-then-part_end-eq1
returns-then-part_end-eq1 c =
    let part-end = c.part_end in
    letter_here _ _ part-end.ensures c.if-part_end-eq1.true
