-- `replies::put_shown` meets its contract: the number, the word and the line feed stand one behind the other.
use native.Mathlib.Omega.{arith}
use mathlib.Core.List.{[], ◌∷◌}
use Rattle.texts.proofs.Fronts.{field_short, put_front, both_front}
use Rattle.replies.proofs.Replying.{word_short}
use Rattle.replies.proofs.put_shown.Goals as goal

pub put_field-first-requires : goal.put_field-first-requires
put_field-first-requires c = omega (arith, field_short)

pub put_word-end-requires : goal.put_word-end-requires
put_word-end-requires c = omega (arith, field_short)

pub returns : goal.returns
returns c =
    let args = c.args in
    let f = c.put_field-first in
    let w = c.put_word-end in
    both_front f.ensures (both_front w.ensures
    (put_front _ w.result (10 ∷ []) _ _
    (omega (arith, field_short, word_short))
    c.put_byte.ensures))
