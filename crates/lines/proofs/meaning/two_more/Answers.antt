-- `lines::meaning::two_more` meets its contract: the places where the words end show how many there are (`Asking`).
use mathlib.Core.Path.{◌∙◌, sym}
use borrow.Author.Rules.{rules}
use Rattle.lines.proofs.Asking.{more_one, more_three, more_two, second_none}
use Rattle.lines.proofs.meaning.two_more.Goals as goal

pub returns-then-n-end : goal.returns-then-n-end
returns-then-n-end c = more_one _ _ _ _ _ c.part_end-end.ensures (search rules)

pub returns-then-last-n : goal.returns-then-last-n
returns-then-last-n c = more_three _ _ _ _ _ c.part_end-end.ensures _ c.part_end-last.ensures (search rules) (search rules)

pub returns-in_err-second : goal.returns-in_err-second
returns-in_err-second c =
    c.from_residual.ensures
    ∙ second_none _ _ _ _ _ c.part_end-end.ensures _ c.part_end-last.ensures (search rules) (search rules) (sym c.in_err-second.was ∙ c.number_at.ensures)

pub returns-in_err-third : goal.returns-in_err-third
returns-in_err-third c =
    let a = c.args in
    let said = more_two a.line.now a.from a.most a.first _ c.part_end-end.ensures _ c.part_end-last.ensures (search rules) (search rules) _ _
    c.number_at.ensures c.number_at-2.ensures in
    c.from_residual-in_err-third.ensures ∙ (rw (c.in_ok-second.was, c.in_err-third.was) at said)

pub returns : goal.returns
returns c =
    let a = c.args in
    let said = more_two a.line.now a.from a.most a.first _ c.part_end-end.ensures _ c.part_end-last.ensures (search rules) (search rules) _ _
    c.number_at.ensures c.number_at-2.ensures in
    rw (c.in_ok-second.was, c.in_ok-third.was) at said
