-- `inserts::place_by_flush` meets its contract: the first layout gives the place, and the flush with the object there begins as the rules say.
use Prim.Native.Nat.{◌≤◌}
use native.Mathlib.Omega.{arith}
use borrow.Author.Rules.{rules}
use Rattle.rules.specs.House.{most_name}
use Rattle.requests.proofs.Starting.{storing_ready, flush_placed}
use Rattle.requests.proofs.Allowed.{insert_may, insert_few}
use Rattle.requests.proofs.inserts.place_by_flush.Goals as goal

pub overflow_cast-len : goal.overflow_cast-len
overflow_cast-len c = omega (arith, (insert_may c.args.s c.args.name c.args.page.now (search rules) c.requires).length_fits)

pub storing-requires : goal.storing-requires
storing-requires c =
    let args = c.args in
    insert_few args.s args.name args.page.now (search rules) c.requires

pub layout_in-l-requires : goal.layout_in-l-requires
layout_in-l-requires c =
    let args = c.args in
    storing_ready args.s args.name args.page.now (search rules) c.requires (let k = c.well_formed in search rules) 0
    c.storing.result (rw c.boundary_for-b.ensures at c.storing.ensures)

pub storing-requires-2 : goal.storing-requires-2
storing-requires-2 c =
    let args = c.args in
    insert_few args.s args.name args.page.now (search rules) c.requires

pub begun-state-requires : goal.begun-state-requires
begun-state-requires c =
    let args = c.args in
    storing_ready args.s args.name args.page.now (search rules) c.requires
    (let k = c.well_formed in search rules) _ c.storing-2.result
    (rw c.boundary_for-b.ensures at c.storing-2.ensures)

pub returns : goal.returns
returns c =
    let small : c.args.name ≤ most_name = search rules in
    let args = c.args in
    let boundary-for-said = c.boundary_for-b.ensures in
    let storing = c.storing in
    let layout-in-said = c.layout_in-l.ensures in
    let storing2 = c.storing-2 in
    rw (c.begun-state.ensures, layout-in-said.value)
    (flush_placed args.s args.name args.page.now small c.requires
    (let k = c.well_formed in search rules) storing.result storing2.result (rw boundary-for-said at storing.ensures)
    (rw (layout-in-said.value, boundary-for-said) at storing2.ensures))
