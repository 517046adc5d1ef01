-- `insert` meets its contract: the tests refuse it, or `requests::inserts::insert` does what they let through.
use mathlib.Core.Path.{refl}
use lib.ListN.{length}
use Rattle.rules.specs.House.{share}
use Rattle.rules.proofs.History.{inserted_accepted}
use Rattle.state.specs.Model.{model_of}
use Rattle.refusals.proofs.Firsts.{is_done}
use Rattle.store.proofs.Outcomes.{refused, never_refused, answer_is, store_is, untouched, insert_call}
use Rattle.store.proofs.calls.insert.Goals as goal

pub returns-in-Err : goal.returns-in-Err
returns-in-Err c =
    let a = c.args in
    let e = refused (insert_call (model_of a.store.state) (length a.area.now) a.name.0 a.page.now) _ c.in-Err.ensures in
    record { answer_value = answer_is e; store_value = store_is e; refused_same = λ q. refl; area_after = untouched e a.area.now }

pub insert-begun-requires : goal.insert-begun-requires
insert-begun-requires c = is_done _ c.in_default.ensures

pub returns-clause-refused_same : goal.returns-clause-refused_same
returns-clause-refused_same c =
    let a = c.args in
    let s = model_of a.store.state in
    let call = insert_call s (length a.area.now) a.name.0 a.page.now in
    let e = c.insert-begun.ensures.state_value in
    λ q. absurd (never_refused call (inserted_accepted share s a.name.0 a.page.now) (is_done _ c.in_default.ensures) e.1 q)
