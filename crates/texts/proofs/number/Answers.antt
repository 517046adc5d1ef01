use mathlib.Core.Path.{◌∙◌, sym}
use native.Mathlib.Omega.{arith}
use borrow.Author.Rules.{rules}
use lib.ListN.{get_or}
use Rattle.texts.proofs.Spelling.{digit_below, number_spelled, spell_end, spell_not, spell_on, spell_room}
use Rattle.texts.proofs.number.Goals as goal

pub returns-then-not-is_ascii_digit : goal.returns-then-not-is_ascii_digit
returns-then-not-is_ascii_digit c =
    spell_not c.loop-b.invariant (search rules) (search rules)
    ∙ sym (number_spelled _ _ (search rules) (search rules) (search rules))

pub overflow_mul-value : goal.overflow_mul-value
overflow_mul-value c = record { fits = omega (arith, spell_room c.loop-b.invariant (search rules)) }

pub overflow_add-value : goal.overflow_add-value
overflow_add-value c =
    let loop = c.loop-b in
    let below = digit_below (get_or c.args.word.now loop.b-index 0) (search rules) in
    record { fits = omega (arith, spell_room loop.invariant (search rules), c.from.ensures) }

pub loop-b-preserved : goal.loop-b-preserved
loop-b-preserved c = spell_on c.loop-b.invariant (search rules) (search rules) _ c.from.ensures

pub returns : goal.returns
returns c = spell_end c.loop-b.invariant (search rules) ∙ sym (number_spelled _ _ (search rules) (search rules) (search rules))
