-- `confirm` meets its contract: the tests refuse it, or the map is written and `flushing::confirm` gives the store.
use mathlib.Core.Path.{refl, sym, ap, ◌∙◌}
use Rattle.rules.specs.House.{share}
use Rattle.rules.specs.Stores.{list_now}
use Rattle.rules.specs.Calls.{Outcome}
use Rattle.rules.proofs.Lists.{clash}
use Rattle.mapform.specs.Maps.{map_of, put_into}
use Rattle.state.specs.declared.State.{State}
use Rattle.state.specs.Model.{model_of}
use Rattle.refusals.proofs.Firsts.{is_done, same}
use Rattle.store.proofs.Outcomes.{refused, refusal, goes, answer_is, store_is, confirm_call, map_refused, map_written}
use Rattle.store.proofs.calls.confirm.Goals as goal

pub returns-in-Err : goal.returns-in-Err
returns-in-Err c =
    let a = c.args in
    let call = confirm_call (model_of a.store.state) a.buf.now in
    let e = refused call _ c.in-Err.ensures in
    record {
      answer_value = answer_is e;
      store_value = store_is e;
      refused_same = λ q. refl;
      buf_after = map_refused (model_of a.store.state) a.buf.now e (refusal call _ c.in-Err.ensures);
    }

pub returns : goal.returns
returns c =
    let a = c.args in
    let all = is_done _ c.in-Ok.ensures in
    let own = same _ _ c.in-Ok.ensures in
    let list = ap (λ (v : State). put_into (map_of (list_now share (model_of v))) a.buf.now) own in
    let e = sym (goes (confirm_call (model_of a.store.state) a.buf.now) all) in
    record {
      answer_value = ap (λ (o : Outcome). o.answer) e;
      store_value = (rw own at c.confirm-confirmed.ensures) ∙ ap (λ (o : Outcome). o.store) e;
      refused_same = λ q. absurd (clash refl q);
      buf_after = c.write_list.ensures ∙ list ∙ map_written (model_of a.store.state) a.buf.now all;
    }
