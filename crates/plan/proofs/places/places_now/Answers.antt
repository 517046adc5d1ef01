-- `places::places_now` meets its contract: the four phases, one after the other.
use Rattle.plan.specs.Turns.{places_after}
use Rattle.plan.proofs.places.places_now.Goals as goal

pub returns : goal.returns
unfolding places_after
returns c = rw (
  c.move_in.ensures.places_after,
  c.move_in-four.ensures.places_after,
  c.move_in-three.ensures.places_after,
  c.move_in-two.ensures.places_after,
  c.move_in-four.ensures.value,
  c.move_in-three.ensures.value,
  c.move_in-two.ensures.value,
  c.lifting.ensures,
  c.packing.ensures,
  c.spreading.ensures,
  c.settling.ensures,
)
