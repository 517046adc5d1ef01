-- `calls::insert` meets its contract: the page lent is as many of the byte as are asked for.
use mathlib.Core.Path.{◌≡◌, ap, subst, ◌∙◌}
use mathlib.Core.List.{List}
use Prim.Native.Nat.{ℕ}
use native.Mathlib.Omega.{arith}
use lib.ListN.{replicate}
use Rattle.rules.specs.History as history
use Rattle.desks.specs.Desks.{called, sized}
use Rattle.desks.specs.Served.{desk_in}
use Rattle.replies.specs.Lines.{said_in}
use Rattle.drilling.proofs.Serving.{filled_part}
use Rattle.drilling.proofs.calls.insert.Goals as goal

pub returns : goal.returns
returns c =
    let a = c.args in
    let room = c.page_room-page.result in
    let page = filled_part c.from.result a.byte _ room (c.fill.ensures.after (λ y same. same))
    (omega (arith, c.page_room-page.ensures)) ∙ ap (λ k. replicate k a.byte) c.from.ensures in
    let change = c.change in
    let e = change.ensures in
    λ buf. record {
      desk = subst (λ (bs : List ℕ). desk_in change.result.desk change.new.area ≡ called (desk_in a.desk a.area.now)
          (history.insert a.desk.lent a.name bs)) page e.area_after;
      reply = subst (λ (bs : List ℕ). said_in change.result.reply buf ≡ sized (desk_in a.desk a.area.now)
          (history.insert a.desk.lent a.name bs)) page (e.reply_value buf);
    }
