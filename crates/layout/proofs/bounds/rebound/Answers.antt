-- `bounds::rebound` meets its contract: each class has its new size.
use Prim.Native.Nat.{suc}
use mathlib.Core.Bool.{cond}
use lib.Dec.{ltb}
use Rattle.rules.specs.House.{classes}
use Rattle.rules.specs.Regions.{col}
use Rattle.layout.specs.Layout.{sizes_by}
use Rattle.layout.proofs.Fills.{array_made}
use borrow.Author.Rules.{rules}
use Rattle.layout.proofs.bounds.rebound.Goals as goal

pub returns : goal.returns
unfolding sizes_by
returns c =
    let args = c.args in
    array_made _ _ (λ i. cond (ltb i args.b) (col args.sizes.now.column i) (col args.volumes.now.of_keys i))
    (λ i y q k. search rules) _ (suc classes) c.from_fn.ensures.items
