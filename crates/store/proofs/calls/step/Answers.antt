-- `step` meets its contract: the tests refuse it, at rest nothing is done, and in a flush `flushing::step` makes the next move.
use mathlib.Core.Path.{refl, sym, ◌∙◌}
use Rattle.rules.proofs.Lists.{clash}
use Rattle.state.specs.Model.{flush_of, model_of}
use Rattle.flushing.proofs.Going.{rest_stage, flush_stage}
use Rattle.refusals.proofs.Firsts.{is_done, same}
use Rattle.store.proofs.Outcomes.{refused, answer_is, store_is, untouched, step_call, step_rests, step_runs}
use Rattle.store.proofs.calls.step.Goals as goal

pub returns-in-Err : goal.returns-in-Err
returns-in-Err c =
    let a = c.args in
    let e = refused (step_call (model_of a.store.state) a.area.now) _ c.in-Err.ensures in
    record { answer_value = answer_is e; store_value = store_is e; refused_same = λ q. refl; area_after = untouched e a.area.now }

pub returns-then-rests : goal.returns-then-rests
returns-then-rests c =
    let a = c.args in
    let e = step_rests (model_of a.store.state) a.area.now (is_done _ c.in-Ok.ensures)
    (rest_stage a.store.state (sym (rw (same _ _ c.in-Ok.ensures) at c.rests.ensures) ∙ c.if-rests.true)) in
    record { answer_value = answer_is e; store_value = store_is e; refused_same = λ q. refl; area_after = untouched e a.area.now }

pub step-moved-requires : goal.step-moved-requires
step-moved-requires c = rw (same _ _ c.in-Ok.ensures) (is_done _ c.in-Ok.ensures)

pub returns : goal.returns
returns c =
    let a = c.args in
    let own = same _ _ c.in-Ok.ensures in
    let runs = flush_stage a.store.state (sym (rw own at c.rests.ensures) ∙ c.if-rests.false) in
    let e = c.step-moved.ensures in
    record {
      answer_value = step_runs (model_of a.store.state) a.area.now (is_done _ c.in-Ok.ensures) (flush_of a.store.state) runs;
      store_value = rw own at e.value;
      refused_same = λ q. absurd (clash refl q);
      area_after = rw own at e.area_after;
    }
