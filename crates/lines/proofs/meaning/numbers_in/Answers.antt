-- `lines::meaning::numbers_in` meets its contract: the places where the words end show how many there are (`Asking`).
use mathlib.Core.Path.{◌∙◌}
use borrow.Author.Rules.{rules}
use Rattle.lines.proofs.Asking.{numbers_more, numbers_none, numbers_one, numbers_wrong}
use Rattle.lines.proofs.meaning.numbers_in.Goals as goal

pub returns-then-n-end : goal.returns-then-n-end
returns-then-n-end c = numbers_none _ _ _ c.part_end-end.ensures (search rules)

pub returns-in_err-first : goal.returns-in_err-first
returns-in_err-first c =
    c.from_residual.ensures
    ∙ numbers_wrong _ _ _ c.part_end-end.ensures _ c.part_end-next.ensures (search rules) _ c.number_at.ensures c.in_err-first.was

pub returns-then-n-next : goal.returns-then-n-next
returns-then-n-next c =
    rw c.in_ok-first.was at
    (numbers_one _ _ _ c.part_end-end.ensures _ c.part_end-next.ensures (search rules) _ c.number_at.ensures (search rules))

pub returns : goal.returns
returns c =
    c.two_more.ensures
    ∙ (rw c.in_ok-first.was at
    (numbers_more _ _ _ c.part_end-end.ensures _ c.part_end-next.ensures (search rules) _ c.number_at.ensures (search rules)))
