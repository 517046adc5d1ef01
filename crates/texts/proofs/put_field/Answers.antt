-- `texts::put_field` meets its contract: the number fits, and the byte behind it.
use borrow.Author.Rules.{rules}
use Rattle.texts.proofs.Fronts.{field_front}
use Rattle.texts.proofs.put_field.Goals as goal

pub returns : goal.returns
returns c =
    field_front _ _ _ _ _ _ (search rules) c.put_number-next.ensures
    c.put_byte.ensures
