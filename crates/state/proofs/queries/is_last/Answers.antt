-- `queries::is_last` meets its contract: the last checkpoint is ahead where as many moves are made as the plan has.
use mathlib.Core.Path.{sym}
use borrow.Author.Rules.{rules}
use Rattle.state.proofs.Told.{last_flush}
use Rattle.state.proofs.queries.is_last.Goals as goal

pub returns : goal.returns
returns c =
    sym (last_flush _ c.args.f.holds (let g = c.well_formed in search rules) c.args.f.runs _ _ _
    _ c.layout_now-l.ensures.value
    c.old_count.ensures c.ahead_by.ensures.value)
