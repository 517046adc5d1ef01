-- `bounds::goal_of` meets its contract; small sizes keep the footprints small.
use native.Mathlib.Omega.{arith}
use Rattle.layout.proofs.Spans.{footprint_few}
use Rattle.layout.proofs.bounds.goal_of.Goals as goal

pub overflow_cast-result : goal.overflow_cast-result
overflow_cast-result c =
    let args = c.args in
    omega (
      arith,
      c.max-end.ensures,
      c.footprint.ensures,
      c.footprint-2.ensures,
      footprint_few args.sizes.now.column args.sizes.now.small,
      footprint_few args.news.now.column args.news.now.small,
    )

pub overflow_add-result : goal.overflow_add-result
overflow_add-result c =
    let args = c.args in
    omega (
      arith,
      c.max-end.ensures,
      c.footprint.ensures,
      c.footprint-2.ensures,
      footprint_few args.sizes.now.column args.sizes.now.small,
      footprint_few args.news.now.column args.news.now.small,
    )

pub returns-clause-upper_bound : goal.returns-clause-upper_bound
returns-clause-upper_bound c =
    let args = c.args in
    omega (
      arith,
      c.max-end.ensures,
      c.footprint.ensures,
      c.footprint-2.ensures,
      footprint_few args.sizes.now.column args.sizes.now.small,
      footprint_few args.news.now.column args.news.now.small,
    )
