-- `inserts::stored` meets its contract: the value at rest with the object put by its place.
use mathlib.Core.Path.{refl}
use Rattle.requests.proofs.Denoted.{stored_model}
use Rattle.requests.proofs.inserts.stored.Goals as goal

pub returns : goal.returns
returns c = (stored_model _ c.requires.1 _ _ _ _ c.inserted.ensures, refl, refl)
