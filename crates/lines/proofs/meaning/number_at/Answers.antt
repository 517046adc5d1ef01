-- `lines::meaning::number_at` meets its contract: the bytes up to the end are the word.
use mathlib.Core.Path.{◌∙◌, ap}
use native.Mathlib.Omega.{arith}
use Rattle.texts.specs.Numbers.{number_of}
use Rattle.lines.specs.Parts.{blank}
use Rattle.lines.proofs.Parting.{end_within, part_taken}
use Rattle.lines.proofs.meaning.number_at.Goals as goal

pub slice_bounds-number-end : goal.slice_bounds-number-end
slice_bounds-number-end c = omega (arith, c.requires.1, end_within blank c.args.line.now _ c.requires.0)

pub returns : goal.returns
returns c =
    c.number.ensures ∙ ap (number_of _) (part_taken blank _ _ _ c.requires.1)
