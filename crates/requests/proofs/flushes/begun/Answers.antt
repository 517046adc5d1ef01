-- `flushes::begun` meets its contract: the layout's turns wait where the plan does.
use mathlib.Core.Path.{ap, ◌∙◌}
use Rattle.requests.specs.Requests.{with_due}
use Rattle.requests.proofs.Starting.{begun_due}
use Rattle.requests.proofs.flushes.begun.Goals as goal

pub returns : goal.returns
returns c =
    let args = c.args in
    let s = args.s in
    ap (with_due s) (c.run_ends-due.ensures
    ∙ begun_due s _ c.requires _
    (c.ahead_by.ensures.value ∙ rw c.layout_in-l.ensures.value))
