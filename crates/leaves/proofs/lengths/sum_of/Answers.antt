-- `lengths::sum_of` meets its contract: the library's sum of a list is the rules'.
use mathlib.Core.Path.{◌≡◌, ◌∙◌}
use Rattle.std.proofs.Common.{rules}
use Rattle.std.proofs.iter.runs.Made.{chains}
use Rattle.std.specs.Prelude.{sum}
use Rattle.leaves.proofs.Leaves.{sum_is}
use Rattle.leaves.proofs.lengths.sum_of.Goals as goal

pub returns : goal.returns
returns c = let e : c.sum.result ≡ sum c.args.lens.now = search (rules, chains) in e ∙ sum_is _
