-- `bridge::insert` meets its contract: what the store's insert did to the bytes lent it did to the area.
use borrow.Author.Rules.{rules}
use mathlib.Core.Path.{refl}
use lib.ListN.{length}
use Rattle.rules.specs.Calls.{insert_of}
use Rattle.rules.specs.History as history
use Rattle.store.specs.Served.{model}
use Rattle.bridge.proofs.Lending.{did_lent}
use Rattle.bridge.proofs.insert.Goals as goal

pub returns : goal.returns
returns c =
    let a = c.args in
    let n = c.min-n in
    let r = c.insert in
    did_lent a.store a.area.now r.result (history.insert a.lent a.name.0 a.page.now)
    (search rules)
    (λ part. insert_of (model a.store) (length part) a.name.0 a.page.now) refl
    n.result n.ensures r.new.area
    (record { answer = r.ensures.answer_value; store = r.ensures.store_value; refused = r.ensures.refused_same; bytes = r.ensures.area_after })
