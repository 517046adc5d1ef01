-- `delete` meets its contract: the tests refuse it, or `requests::deletes::delete` does what they let through.
use mathlib.Core.Path.{refl}
use Rattle.rules.specs.House.{share}
use Rattle.rules.proofs.History.{deleted_accepted}
use Rattle.state.specs.Model.{model_of}
use Rattle.refusals.proofs.Firsts.{is_done}
use Rattle.store.proofs.Outcomes.{refused, never_refused, answer_is, store_is, delete_call}
use Rattle.store.proofs.calls.delete.Goals as goal

pub returns-in-Err : goal.returns-in-Err
returns-in-Err c =
    let e = refused (delete_call (model_of c.args.store.state) c.args.name.0) _ c.in-Err.ensures in
    record { answer_value = answer_is e; store_value = store_is e; refused_same = λ q. refl }

pub delete-begun-requires : goal.delete-begun-requires
delete-begun-requires c = is_done _ c.in_default.ensures

pub returns-clause-refused_same : goal.returns-clause-refused_same
returns-clause-refused_same c =
    let s = model_of c.args.store.state in
    let n = c.args.name.0 in
    λ q. absurd (never_refused (delete_call s n) (deleted_accepted share s n _) (is_done _ c.in_default.ensures) c.delete-begun.ensures.1 q)
