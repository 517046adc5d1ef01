-- `inserts::place_above` meets its contract: the tests of the call bound the page and the end of the regions.
use native.Mathlib.Omega.{arith}
use lib.ListN.{length}
use borrow.Author.Rules.{rules}
use Rattle.rules.proofs.ClassLaws.{class_bounds}
use Rattle.requests.proofs.Allowed.{footprint_held, insert_rests, insert_held, insert_may, insert_few}
use Rattle.requests.proofs.Denoted.{above_placed}
use Rattle.requests.proofs.inserts.place_above.Goals as goal

pub overflow_cast-len : goal.overflow_cast-len
overflow_cast-len c = omega (arith, (insert_may c.args.s c.args.name c.args.page.now (search rules) c.requires).length_fits)

pub overflow_cast-at : goal.overflow_cast-at
overflow_cast-at c =
    let args = c.args in
    let f = rw c.sizes_of-sizes.ensures at c.footprint-at.ensures in
    omega (
      arith,
      f,
      footprint_held args.s.regions (insert_held args.s args.name args.page.now (search rules) c.requires),
    )

pub raised-regions-requires : goal.raised-regions-requires
raised-regions-requires c =
    let args = c.args in
    let m = insert_may args.s args.name args.page.now (search rules) c.requires in
    let b = class_bounds (length args.page.now) m.some_length m.length_fits in
    (omega (arith, c.class_of.ensures, b.0), omega (arith, c.class_of.ensures, b.1))

pub stored-requires : goal.stored-requires
stored-requires c =
    let args = c.args in
    let pre = c.requires in
    (insert_few args.s args.name args.page.now (search rules) pre, insert_rests args.s args.name args.page.now (search rules) pre)

pub returns : goal.returns
returns c =
    let args = c.args in
    rw (
      c.stored.ensures.0,
      c.stored.ensures.1,
      c.stored.ensures.2,
      c.raised-regions.ensures,
      c.class_of.ensures,
      c.footprint-at.ensures,
      c.sizes_of-sizes.ensures,
    ) (above_placed args.s args.name args.page.now)
