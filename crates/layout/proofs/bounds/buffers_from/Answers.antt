-- `bounds::buffers_from` meets its contract: what the chain adds up are the buffers from the class on.
use mathlib.Core.Path.{◌≡◌, ◌∙◌}
use Prim.Native.Nat.{◌/◌, ◌-◌}
use native.Mathlib.Omega.{arith}
use lib.ListN.{drop, length-drop}
use Rattle.std.proofs.lemmas.List.{take_all}
use Rattle.std.proofs.Common.{rules, tests}
use Rattle.std.proofs.lemmas.Iterator.{YieldsList-from_slice, YieldsList-from_map}
use Rattle.std.proofs.lemmas.Iterator.Consumers.{sum_by_from_yields_List, fits_by_from_yields_list}
use Rattle.rules.specs.House.{share}
use Rattle.rules.specs.Regions.{up_from}
use Rattle.layout.proofs.Spans.{span_column, buffers_few}
use Rattle.layout.proofs.bounds.buffers_from.Goals as goal

pub sum-requires-clause-fits : goal.sum-requires-clause-fits
sum-requires-clause-fits c =
    let args = c.args in
    let left = drop args.b args.sizes.now.column in
    let whole : c.map.result.iter.rest.now ≡ left = rw (c.map.ensures.source, c.iter.ensures.rest, c.from.ensures)
    (take_all (13 - args.b) left (omega (arith, length-drop args.b args.sizes.now.column))) in
    fits_by_from_yields_list (λ x. x / share) left c.map.result _
    (YieldsList-from_map _ (λ x. x / share) (YieldsList-from_slice left whole) c.map.ensures.closure (λ x r q k. search (rules, tests)))
    (omega (
      arith,
      span_column (λ x. x / share) args.sizes.now.column args.b (up_from args.b) (omega arith),
      buffers_few args.sizes.now.column args.sizes.now.small args.b (up_from args.b),
    ))

pub returns : goal.returns
returns c =
    let args = c.args in
    let left = drop args.b args.sizes.now.column in
    let whole : c.map.result.iter.rest.now ≡ left = rw (c.map.ensures.source, c.iter.ensures.rest, c.from.ensures)
    (take_all (13 - args.b) left (omega (arith, length-drop args.b args.sizes.now.column))) in
    let value = sum_by_from_yields_List (λ x. x / share) left c.map.result c.sum.result c.sum.ensures.ran
    (YieldsList-from_map _ (λ x. x / share) (YieldsList-from_slice left whole) c.map.ensures.closure (λ x r q k. search (rules, tests)))
    ∙ span_column (λ x. x / share) args.sizes.now.column args.b (up_from args.b) (omega arith) in
    record { value = value; upper_bound = omega (arith, value, buffers_few args.sizes.now.column args.sizes.now.small args.b (up_from args.b)) }
