-- `places::finals_of` meets its contract: overflow objects start behind the payload objects of their class.
use Rattle.layout.proofs.Spans.{homes_few}
use Rattle.layout.proofs.places.finals_of.Goals as goal

pub place-requires-clause-starts_bound : goal.place-requires-clause-starts_bound
place-requires-clause-starts_bound c = homes_few _ _ _ c.args.news.now.small c.tally-volumes.result.small c.homes.ensures
