-- `inserts::place` meets its contract: the tests choose the way that the rules choose.
use mathlib.Core.Path.{sym, ◌∙◌}
use native.Mathlib.Omega.{arith}
use lib.ListN.{length}
use borrow.Author.Rules.{rules}
use Rattle.requests.proofs.Allowed.{insert_may, found_room}
use Rattle.leaves.proofs.Room.{room_none}
use Rattle.requests.proofs.Denoted.{room_in_lem, goes_above, goes_by_flush, goes_into}
use Rattle.requests.proofs.inserts.place.Goals as goal

pub overflow_cast-len : goal.overflow_cast-len
overflow_cast-len c = omega (arith, (insert_may c.args.s c.args.name c.args.page.now (search rules) c.requires).length_fits)

pub returns-then-above_top : goal.returns-then-above_top
returns-then-above_top c =
    let args = c.args in
    c.place_above.ensures ∙ sym (goes_above args.s args.name args.page.now
    (sym c.above_top.ensures ∙ c.if-above_top.true))

pub returns-in-None : goal.returns-in-None
returns-in-None c =
    let args = c.args in
    let room = c.room in
    let none = room_none _ _ _ _ _ (sym room.ensures.value ∙ c.in-None.is) in
    c.place_by_flush.ensures ∙ sym
    (goes_by_flush args.s args.name args.page.now
    (sym c.above_top.ensures ∙ c.if-above_top.false)
    (none ∙ sym (room_in_lem args.s (length args.page.now))))

pub place_into-requires-clause-j_value : goal.place_into-requires-clause-j_value
place_into-requires-clause-j_value c =
    let args = c.args in
    let may = insert_may args.s args.name args.page.now (search rules) c.requires in
    let found = found_room args.s.regions (length args.page.now) c.in-Some.j may.some_length may.length_fits (sym c.room.ensures.value ∙ c.in-Some.is) in
    (found.0 ∙ sym (room_in_lem args.s (length args.page.now)), found.1)

pub returns-in-Some : goal.returns-in-Some
returns-in-Some c =
    let args = c.args in
    let may = insert_may args.s args.name args.page.now (search rules) c.requires in
    let found = found_room args.s.regions (length args.page.now) c.in-Some.j may.some_length may.length_fits (sym c.room.ensures.value ∙ c.in-Some.is) in
    c.place_into.ensures ∙ sym (goes_into args.s args.name args.page.now c.in-Some.j
    (sym c.above_top.ensures ∙ c.if-above_top.false)
    (found.0 ∙ sym (room_in_lem args.s (length args.page.now))) found.1)
