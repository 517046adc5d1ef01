-- `lines::parts::part_end` meets its contract: what stands from the place on has its first part up to where `by` is found.
use Rattle.lines.proofs.Parting.{end_found}
use Rattle.lines.proofs.parts.part_end.Goals as goal

pub returns : goal.returns
returns c = end_found _ _ _ _ _ _ c.min.ensures c.place_of.ensures c.unwrap_or.ensures
