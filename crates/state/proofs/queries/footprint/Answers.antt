-- `queries::footprint` meets its contract: at rest the end of the regions, in a flush the end of overflow.
use mathlib.Core.Path.{◌≡◌, sym, ◌∙◌}
use native.Mathlib.Omega.{arith}
use borrow.Author.Rules.{rules}
use Rattle.rules.specs.House.{share}
use Rattle.rules.specs.Regions.{footprint}
use Rattle.state.specs.Model.{sizes_in}
use Rattle.state.proofs.Told.{footprint_rest, footprint_flush, small_rest}
use Rattle.state.proofs.queries.footprint.Goals as goal

pub overflow_cast-result : goal.overflow_cast-result
overflow_cast-result c =
    let s = c.args.c.state in
    let f : c.footprint.result ≡ footprint share (sizes_in _) = rw c.sizes_of-sizes.ensures at c.footprint.ensures in
    omega (
      arith,
      f,
      small_rest s c.args.c.holds
          (sym c.rests.ensures ∙ c.if-rests.true),
    )

pub returns-then-rests : goal.returns-then-rests
returns-then-rests c = c.footprint.ensures
    ∙ rw c.sizes_of-sizes.ensures
    (sym (footprint_rest _
    (sym c.rests.ensures ∙ c.if-rests.true)))

pub returns : goal.returns
returns c = rw c.layout_now.ensures.value
    (sym (footprint_flush _ c.args.c.holds (let g = c.well_formed in search rules)
    (sym c.rests.ensures ∙ c.if-rests.false)))
