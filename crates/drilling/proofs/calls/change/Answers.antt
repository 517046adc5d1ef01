-- `calls::change` meets its contract: the call is served as the history's call is, and the sizes are those of the store handed back.
use mathlib.Core.Path.{ap, ◌∙◌}
use Rattle.desks.specs.Served.{desk_in}
use Rattle.replies.specs.Lines.{said_in}
use Rattle.drilling.proofs.Serving.{standing, stands, desk_called, said_sized}
use Rattle.drilling.proofs.calls.change.Goals as goal

pub returns : goal.returns
returns c =
    let a = c.args in
    let s = c.serve-s in
    let k = s.ensures.served_as (standing a.desk a.area.now) (stands a.desk a.area.now) in record {
      area_after = ap (λ d. desk_in d s.new.area) c.sized.ensures.desk_value ∙ desk_called a.desk a.area.now _ s.result _ k;
      reply_value = λ buf. ap (λ r. said_in r buf) c.sized.ensures.reply_value ∙ said_sized a.desk a.area.now _ s.result _ k;
    }
