-- `confirm` meets its contract: the tests tell the stage, whether a checkpoint is due, and whether it is the last.
use mathlib.Core.Path.{sym, ap, ◌∙◌}
use borrow.Author.Tests.{not-true, not-false}
use Rattle.rules.specs.House.{share}
use Rattle.rules.specs.Calls.{confirm_in}
use Rattle.rules.proofs.Steps.{confirm_early}
use Rattle.state.specs.Model.{flush_of, model_of}
use Rattle.flushing.proofs.Going.{rest_stage, flush_stage, confirm_wait, confirm_last}
use Rattle.flushing.proofs.confirm.Goals as goal
use Rattle.flushing.proofs.confirm.Goals.{then-rests-via-then-rests, then-rests-via-else-rests+then-not-state}

pub returns-then-rests : goal.returns-then-rests
returns-then-rests c =
    let s = c.args.c.state in
    elim c.then-rests.branch [
      | then-rests-via-then-rests w ↦ sym (ap (confirm_in share (model_of s)) (rest_stage s (sym c.rests.ensures ∙ w.if-rests.true)))
      | then-rests-via-else-rests+then-not-state w ↦
          sym (ap (confirm_in share (model_of s)) (flush_stage s (sym c.rests.ensures ∙ w.if-rests.false))
          ∙ confirm_early share (model_of s) (flush_of s) (not-true _ w.if-not-state.true))
    ]

pub returns-then-is_last : goal.returns-then-is_last
returns-then-is_last c =
    let s = c.args.c.state in
    c.settled.ensures
    ∙ sym (ap (confirm_in share (model_of s)) (flush_stage s (sym c.rests.ensures ∙ c.if-rests.false))
    ∙ confirm_last share (model_of s) (flush_of s) (not-false _ c.if-not-state.false) (sym c.is_last.ensures ∙ c.if-is_last.true))

pub returns-else-is_last : goal.returns-else-is_last
returns-else-is_last c =
    let s = c.args.c.state in
    c.waited.ensures
    ∙ sym (ap (confirm_in share (model_of s)) (flush_stage s (sym c.rests.ensures ∙ c.if-rests.false))
    ∙ confirm_wait share (model_of s) (flush_of s) (not-false _ c.if-not-state.false) (sym c.is_last.ensures ∙ c.if-is_last.false))
