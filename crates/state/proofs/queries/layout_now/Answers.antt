-- `queries::layout_now` meets its contract: a flush that runs in a sound value is ready for its layout.
use borrow.Author.Rules.{rules}
use Rattle.state.proofs.Told.{runs}
use Rattle.state.proofs.queries.layout_now.Goals as goal

pub layout_in-requires : goal.layout_in-requires
layout_in-requires c =
    rw c.old_count.ensures (runs _ c.args.f.holds (let g = c.well_formed in search rules) c.args.f.runs).is_ready

pub returns-clause-count_bound : goal.returns-clause-count_bound
returns-clause-count_bound c =
    let r = (runs _ c.args.f.holds (let g = c.well_formed in search rules) c.args.f.runs).is_ready in
    (r.part, r.few)
