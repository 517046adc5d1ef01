-- `to_rest::serve` meets its contract: each arm runs on from what its call came to; the last one does nothing.
use mathlib.Core.Path.{◌≡◌, sym, ap, ◌∙◌}
use borrow.Author.Rules.{rules}
use Rattle.store.specs.Served.{model}
use Rattle.std.specs.Prelude.{Option, Some}
use Rattle.lines.specs.declared.Request.{Request}
use Rattle.lines.specs.declared.Request.TheVariants.{Delete}
use Rattle.to_rest.specs.Runs.{Ran, to_rest, fuel, ran_of}
use Rattle.to_rest.proofs.Telling.{delete_told, rests_by}
use Rattle.to_rest.proofs.Begun.{delete_begins}
use Rattle.to_rest.proofs.serve.Goals as goal

pub run_on-requires : goal.run_on-requires
run_on-requires c =
    let delete-said = c.delete.ensures in
    rests_by (delete_told (model c.args.store) _) delete-said.answer_value delete-said.store_value

pub returns-in-Some-Delete : goal.returns-in-Some-Delete
returns-in-Some-Delete c =
    let a = c.args in
    let t = c.delete in
    let asked : a.r ≡ Some (Delete c.in-Some-Delete.name) = search rules in
    c.run_on.ensures
    ∙ ap (λ (x : Ran). to_rest fuel x)
    (delete_begins (model a.store) (model t.result.store) a.area.now _ t.result.answer t.ensures.answer_value t.ensures.store_value)
    ∙ sym (ap (λ (q : Option Request). ran_of (model a.store) a.area.now q) asked)
