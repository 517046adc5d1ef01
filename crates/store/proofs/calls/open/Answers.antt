-- `open` meets its contract: an area that fits is kept, and of any other the length 0.
use mathlib.Core.Path.{sym, ◌∙◌}
use lib.Dec.{leb}
use native.Mathlib.Omega.{arith}
use borrow.Author.Tests.{leb-true}
use Rattle.rules.specs.House.{least_area, most_area}
use Rattle.rules.proofs.Lists.{and_true}
use Rattle.store.proofs.calls.open.Goals as goal

pub returns-then-not-area_fits : goal.returns-then-not-area_fits
returns-then-not-area_fits c =
    let outside = sym c.area_fits.ensures ∙ c.if-not-area_fits.true in
    record { store_value = rw outside c.empty.ensures; answer_value = rw outside }

pub overflow_cast-area : goal.overflow_cast-area
overflow_cast-area c =
    let area = c.args.area in
    let within = and_true (leb least_area area) (leb area most_area) (sym c.area_fits.ensures ∙ c.if-not-area_fits.false) in
    omega (arith, leb-true area most_area within.1)

pub returns : goal.returns
returns c =
    let within = sym c.area_fits.ensures ∙ c.if-not-area_fits.false in
    record { store_value = rw within c.empty-2.ensures; answer_value = rw within }
