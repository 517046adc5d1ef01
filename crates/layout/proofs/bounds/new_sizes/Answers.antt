-- `bounds::new_sizes` meets its contract: the volumes by class are those of the new sizes.
use native.Mathlib.Omega.{arith}
use Rattle.layout.proofs.Spans.{sizes_small}
use Rattle.layout.proofs.KeyBounds.{classes_few}
use Rattle.layout.proofs.bounds.new_sizes.Goals as goal

pub tally-volumes-requires-clause-keys_few : goal.tally-volumes-requires-clause-keys_few
tally-volumes-requires-clause-keys_few c k = omega (arith, classes_few _ _ _ c.requires.class_value k)

pub invariant_of-result : goal.invariant_of-result
invariant_of-result c = record { small = sizes_small _ _ _ _ c.args.sizes.now.small c.tally-volumes.result.small c.rebound.ensures }
