-- `empty` meets its contract: the value written out stands for no regions, no objects and no flush.
use mathlib.Core.Path.{refl}
use Rattle.rules.specs.Regions.{table}
use Rattle.rules.specs.Columns.{listed}
use Rattle.state.specs.Model.{sizes_in, rests, model_of}
use Rattle.store.proofs.calls.empty.Goals as goal

pub returns : goal.returns
unfolding model_of sizes_in rests listed table
returns c = refl
