-- `places::find_now` meets its contract: the columns list the objects now, and the search finds the name there.
use mathlib.Core.Path.{sym, ◌∙◌}
use native.Mathlib.Omega.{arith}
use borrow.Author.Tests.{lt-ltb}
use Rattle.edits.proofs.Finds.{found_is as found_of, found_at}
use Rattle.refusals.proofs.Known.{few}
use Rattle.refusals.proofs.Found.{found, found_is, found_low}
use Rattle.refusals.proofs.places.find_now.Goals as goal

pub shared_ref_as_front-find : goal.shared_ref_as_front-find
shared_ref_as_front-find c = omega (arith, few _ c.args.c.holds)

pub unwrap-i-requires : goal.unwrap-i-requires
unwrap-i-requires c =
    let list = c.list_now-list in
    let o = list.result in
    let at = found c.args.c.state o c.args.name c.args.c.holds c.requires list.ensures in
    rw (c.find.ensures, found_of o.names o.places o.lens c.args.c.state.count (omega (arith, few _ c.args.c.holds)) c.args.name, lt-ltb _ _ at)

pub returns-clause-object_now : goal.returns-clause-object_now
returns-clause-object_now c =
    let list = c.list_now-list in
    let o = list.result in
    let at = found_at o.names o.places o.lens c.args.c.state.count (omega (arith, few _ c.args.c.holds)) c.args.name c.unwrap-i.result
    (sym c.find.ensures ∙ c.unwrap-i.ensures) in
    rw at.1 (found_is _ _ _ c.args.c.holds c.requires list.ensures)

pub returns-clause-within_area : goal.returns-clause-within_area
returns-clause-within_area c =
    let list = c.list_now-list in
    let o = list.result in
    let at = found_at o.names o.places o.lens c.args.c.state.count (omega (arith, few _ c.args.c.holds)) c.args.name c.unwrap-i.result
    (sym c.find.ensures ∙ c.unwrap-i.ensures) in
    rw at.1 (found_low _ _ _ c.args.c.holds c.requires list.ensures)

pub overflow_cast-result : goal.overflow_cast-result
overflow_cast-result c =
    let list = c.list_now-list in
    let o = list.result in
    let at = found_at o.names o.places o.lens c.args.c.state.count (omega (arith, few _ c.args.c.holds)) c.args.name c.unwrap-i.result
    (sym c.find.ensures ∙ c.unwrap-i.ensures) in
    record { fits = rw at.1 (found_low _ _ _ c.args.c.holds c.requires list.ensures).1 }
