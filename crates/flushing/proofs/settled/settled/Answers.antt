-- `settled::settled` meets its contract: the layout has the new sizes, and the objects come in place order.
use borrow.Author.Rules.{rules}
use Rattle.state.proofs.Told.{runs}
use Rattle.flushing.proofs.Settling.{settled_end}
use Rattle.flushing.proofs.settled.settled.Goals as goal

pub emptied-requires : goal.emptied-requires
emptied-requires c = (runs _ c.args.f.holds (search rules) c.args.f.runs).is_ready.most

pub returns : goal.returns
returns c =
    settled_end _ c.args.f.holds (search rules) c.args.f.runs _ _ _ c.layout_now-l.ensures.value c.emptied.ensures c.in_place_order.ensures
