-- `bridge::serve` meets its contract: each arm did what the rules say of its call, so it served the history's call. A delete and a
-- confirmation leave the area alone, and write nothing by the rules.
use Rattle.rules.proofs.History.{delete_silent, confirm_silent}
use Rattle.bridge.proofs.Lending.{served_as, did_silent}
use Rattle.bridge.proofs.serve.Goals as goal

pub returns-in-Delete-clause-served_as : goal.returns-in-Delete-clause-served_as
returns-in-Delete-clause-served_as c =
    let a = c.args in
    let e = c.delete.ensures in
    rw c.in-Delete.is (λ h at. served_as a.store a.area.now _ h _ _ at
    (did_silent a.store a.area.now _ _ (delete_silent _ _) e.answer_value e.store_value e.refused_same))

pub returns-in-Confirm-clause-served_as : goal.returns-in-Confirm-clause-served_as
returns-in-Confirm-clause-served_as c =
    let a = c.args in
    let e = c.confirm.ensures in
    rw c.in-Confirm.is (λ h at. served_as a.store a.area.now _ h _ _ at
    (did_silent a.store a.area.now _ _ (confirm_silent _ _) e.answer_value e.store_value e.refused_same))
