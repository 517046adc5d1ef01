-- `placing::objects_lie` meets its contract. The invariant: `edge` is where the last object ends, and the test of the objects left
-- comes to the whole of it.
use mathlib.Core.Path.{◌≡◌}
use Rattle.rules.specs.House.{share}
use Rattle.sound_rest.specs.Rest.{regions_of}
use Rattle.sound_rest.proofs.Lying.{lie_from}
use Rattle.sound_rest.proofs.placing.objects_lie.Given as goal

abbrev pub invariant-loop-at : goal.invariant-loop-at
invariant-loop-at l =
    let t = regions_of l.regions in
    lie_from share t l.edge l.at-iterator.a.rest.now l.at-iterator.b.rest.now ≡ lie_from share t 0 l.places l.lens
