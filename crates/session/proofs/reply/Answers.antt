-- `session::reply` meets its contract: a line that asks for nothing is answered `bad`, any other with the line of the request as it was served.
use mathlib.Core.Path.{sym, ap, ◌∙◌}
use mathlib.Core.List.{List}
use Prim.Native.Nat.{ℕ}
use Rattle.store.specs.Served.{model}
use Rattle.std.specs.Prelude.{Option}
use Rattle.lines.specs.declared.Request.{Request}
use Rattle.texts.specs.Numbers.{put_into, place_behind}
use Rattle.to_rest.specs.Runs.{Ran, ran_of}
use Rattle.to_rest.specs.Values.{ran_in}
use Rattle.session.proofs.Replying.{reply_text_lem}
use Rattle.session.proofs.reply.Goals as goal

pub returns : goal.returns
returns c =
    let args = c.args in
    let serve = c.serve-ran in
    let put-ran-said = c.put_ran.ensures in
    let asked = sym c.in-Some.is ∙ c.request.ensures in
    let e = serve.ensures ∙ ap (λ (q : Option Request). ran_of (model args.store) args.area.now q) asked in
    let t = reply_text_lem (model args.store) args.area.now args.line.now c.in-Some.asked (ran_in serve.result serve.new.area) asked serve.ensures in
    record {
      store_value = ap (λ (x : Ran). x.store) e;
      next_value = put-ran-said.value ∙ ap (λ (xs : List ℕ). place_behind args.out.now args.at xs) t;
      area_after = ap (λ (x : Ran). x.area) e;
      out_after = put-ran-said.out_after ∙ ap (λ (xs : List ℕ). put_into args.out.now args.at xs) t;
    }
