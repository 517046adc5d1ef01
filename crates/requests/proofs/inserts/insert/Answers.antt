-- `inserts::insert` meets its contract: what `place` gives is the outcome, and its write ends in the area lent.
use mathlib.Core.Path.{◌≡◌, sym, ap, ◌∙◌, subst}
use Prim.Native.Nat.{ℕ}
use lib.ListN.{length}
use borrow.Author.Rules.{rules}
use Rattle.rules.specs.declared.Answer.TheVariants.{Done}
use Rattle.rules.specs.Calls.{Outcome, insert_tests, written}
use Rattle.rules.specs.Answers.{first}
use Rattle.state.specs.Model.{model_of}
use Rattle.requests.specs.Requests.{outcome_of}
use Rattle.requests.proofs.Allowed.{insert_own, insert_done, insert_ends}
use Rattle.requests.proofs.inserts.insert.Goals as goal

pub place-p-requires : goal.place-p-requires
place-p-requires c =
    let args = c.args in
    let pre = c.requires in
    subst (λ (n : ℕ). first (insert_tests (model_of args.s) n args.name args.page.now) ≡ Done)
    (insert_own args.s (length args.area.now) args.name args.page.now (search rules) pre) pre

pub write_page-requires : goal.write_page-requires
write_page-requires c =
    let args = c.args in
    let place = c.place-p in
    insert_ends args.s (length args.area.now) args.name args.page.now (search rules) c.requires
    (outcome_of place.result args.page.now) place.ensures

pub returns : goal.returns
returns c =
    let args = c.args in
    let done = insert_done args.s (length args.area.now) args.name args.page.now (search rules) c.requires in
    let same = c.place-p.ensures ∙ sym done in
    record {
      state_value = (ap (λ (o : Outcome). o.store) same, ap (λ (o : Outcome). o.answer) same);
      area_after = c.write_page.ensures ∙ ap (λ (o : Outcome). written args.area.now o.write) same;
    }
