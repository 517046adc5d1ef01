-- `to_rest::insert_page` meets its contract: the part that is lent is the request's page, or one that is refused as that is, and the run goes
-- on from what the call came to.
use Prim.Native.Nat.{suc}
use Rattle.rules.specs.House.{longest}
use mathlib.Core.Path.{ap, ◌∙◌}
use lib.ListN.{length}
use Rattle.store.specs.Served.{model}
use Rattle.to_rest.specs.Runs.{Ran, to_rest, fuel}
use Rattle.to_rest.proofs.Telling.{insert_told, rests_by}
use Rattle.leaves.proofs.Parts.{take_same}
use Rattle.to_rest.proofs.Begun.{insert_begins}
use borrow.Author.Rules.{rules}
use Rattle.to_rest.proofs.insert_page.Goals as goal

pub run_on-requires : goal.run_on-requires
run_on-requires c =
    let a = c.args in
    let t = c.insert-begun in
    rests_by (insert_told (model a.store) (length a.area.now) a.name _ (search rules)) t.ensures.answer_value t.ensures.store_value

pub returns : goal.returns
returns c =
    let a = c.args in
    let l = c.min-n in
    let t = c.insert-begun in
    c.run_on.ensures ∙ ap (λ (r : Ran). to_rest fuel r)
    (insert_begins (model a.store) (model t.result.store) a.area.now t.new.area _ a.name a.len a.byte l.result
    t.result.answer (take_same l.result (suc longest) a.byte (search rules)) (rw c.from.ensures at l.ensures)
    t.ensures.answer_value t.ensures.store_value t.ensures.area_after)
