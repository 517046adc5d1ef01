-- `places::middles_of` meets its contract: payload objects start at the goal less their volume, overflow objects at the goal.
use Rattle.layout.proofs.Spans.{middle_few}
use borrow.Author.Rules.{rules}
use Rattle.layout.proofs.places.middles_of.Goals as goal

pub place-requires-clause-starts_bound : goal.place-requires-clause-starts_bound
place-requires-clause-starts_bound c = middle_few _ _ _ c.middle_starts.ensures (search rules)
