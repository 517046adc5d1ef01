-- `bridge::step` meets its contract: what the store's step did to the bytes lent it did to the area.
use mathlib.Core.Path.{refl}
use Rattle.rules.specs.Calls.{step_of}
use Rattle.rules.specs.History as history
use Rattle.store.specs.Served.{model}
use Rattle.bridge.proofs.Lending.{did_lent}
use Rattle.bridge.proofs.step.Goals as goal

pub returns : goal.returns
returns c =
    let a = c.args in
    let n = c.min-n in
    let r = c.step in
    did_lent a.store a.area.now r.result (history.step a.lent) tt (step_of (model a.store)) refl
    n.result n.ensures r.new.area
    (record { answer = r.ensures.answer_value; store = r.ensures.store_value; refused = r.ensures.refused_same; bytes = r.ensures.area_after })
