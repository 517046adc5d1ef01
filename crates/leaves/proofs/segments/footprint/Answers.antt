-- `segments::footprint` meets its contract: the library's sum over the payloads, each with its buffer, is the end of the last region.
use mathlib.Core.Path.{◌≡◌, ◌∙◌}
use Prim.Native.Nat.{◌+◌, ◌/◌, ◌^◌}
use native.Mathlib.Omega.{arith}
use Rattle.std.proofs.lemmas.List.{length-drop}
use lib.ListN.{drop}
use Rattle.std.proofs.Common.{rules}
use Rattle.std.specs.Prelude.{sum_by}
use Rattle.std.proofs.lemmas.Iterator.{YieldsList-from_slice, YieldsList-from_map}
use Rattle.std.proofs.lemmas.Iterator.Consumers.{sum_by_from_yields_List}
use Rattle.std.proofs.lemmas.Iterator.Adapters.{YieldsList-from_skip, fits_from_length, at_most_from_yields_List}
use Rattle.rules.specs.House.{share, classes}
use Rattle.leaves.proofs.Leaves.{end_is}
use Rattle.leaves.proofs.segments.footprint.Goals as goal

pub sum-requires-clause-fits : goal.sum-requires-clause-fits
sum-requires-clause-fits c =
    fits_from_length _ _ classes (2 ^ 64)
    (at_most_from_yields_List (YieldsList-from_skip 1 (YieldsList-from_slice c.args.sizes.now cc) cc) (omega (arith, length-drop 1 c.args.sizes.now)))
    c.map.ensures.closure (omega arith) (λ x r q k. search rules)

pub returns : goal.returns
returns c =
    let sizes = c.args.sizes.now in
    let e : c.sum.result ≡ sum_by (λ size. size + size / share) (drop 1 sizes)
    = sum_by_from_yields_List (λ size. size + size / share) (drop 1 sizes) _ c.sum.result c.sum.ensures.ran
    (YieldsList-from_map _ (λ size. size + size / share) (YieldsList-from_skip 1 (YieldsList-from_slice sizes cc) cc)
    c.map.ensures.closure (λ x r q k. search rules)) in
    e ∙ end_is _ c.told-sizes
