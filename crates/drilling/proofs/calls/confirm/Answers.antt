-- `calls::confirm` meets its contract: the part of the buffer that is lent is as long as asked, and all 170.
use mathlib.Core.Path.{ap, ◌∙◌}
use lib.ListN.{replicate}
use Rattle.drilling.proofs.Serving.{standing, stands, confirm_served}
use Rattle.drilling.proofs.calls.confirm.Goals as goal

pub returns : goal.returns
returns c =
    let filled = c.fill.ensures.after (λ y same. same) in
    let min = c.min-room in
    let a = c.args in
    let s = c.serve-s in
    let k = s.ensures.served_as (standing a.desk a.area.now) (stands a.desk a.area.now) in
    confirm_served a.desk a.area.now a.n min.result c.from-2.result s.result _ _ _ _ (rw c.from.ensures at min.ensures)
    (filled ∙ ap (λ m. replicate m 170) c.requires) k c.from-2.ensures s.ensures.buf_after
