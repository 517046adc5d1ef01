-- `places::homes` meets its contract: each slot has its start.
use mathlib.Core.Path.{◌∙◌}
use Prim.Native.Nat.{ℕ, ◌≤◌}
use native.Mathlib.Omega.{arith}
use lib.ListN.{get_or}
use Rattle.std.proofs.iter.Serving.{serving}
use Rattle.layout.specs.Layout.{slot_count, home_at, homes_by}
use Rattle.layout.proofs.Fills.{array_made}
use Rattle.layout.proofs.Spans.{starts_few}
use borrow.Author.Rules.{rules}
use Rattle.layout.proofs.places.homes.Goals as goal

pub from_fn-requires : goal.from_fn-requires
from_fn-requires c =
    let starts = c.starts-starts in
    let few : (k : ℕ) → get_or starts.result k 0 ≤ 1073741824 =
    λ k. omega (arith, starts_few c.args.news.now.column c.args.news.now.small starts.result starts.ensures k) in
    grind serving

pub returns : goal.returns
unfolding homes_by
returns c =
    array_made _ _ (home_at c.starts-starts.result c.args.volumes.now.of_keys) (λ i y q k. search rules) _ slot_count c.from_fn.ensures.items
    ∙ rw c.starts-starts.ensures
