-- `inserts::place_into` meets its contract: a buffer with room lies in the regions, and they lie in the area.
use mathlib.Core.Path.{◌∙◌}
use native.Mathlib.Omega.{arith}
use lib.ListN.{length}
use borrow.Author.Rules.{rules}
use Rattle.requests.proofs.Allowed.{space, insert_rests, insert_held, insert_may, insert_few}
use Rattle.requests.proofs.Denoted.{room_in_lem, into_placed}
use Rattle.requests.proofs.inserts.place_into.Goals as goal

pub overflow_cast-len : goal.overflow_cast-len
overflow_cast-len c = omega (arith, (insert_may c.args.s c.args.name c.args.page.now (search rules) c.requires.passes).length_fits)

pub unused_at-at-requires : goal.unused_at-at-requires
unused_at-at-requires c =
    let args = c.args in
    let pre = c.requires in
    let p = space args.s.regions (insert_held args.s args.name args.page.now (search rules) pre.passes) (length args.page.now) args.j
    (pre.j_value.0 ∙ room_in_lem args.s (length args.page.now)) pre.j_value.1 in
    (p.within, p.starts)

pub entered-regions-requires : goal.entered-regions-requires
entered-regions-requires c =
    let args = c.args in
    let pre = c.requires in
    let p = space args.s.regions (insert_held args.s args.name args.page.now (search rules) pre.passes) (length args.page.now) args.j
    (pre.j_value.0 ∙ room_in_lem args.s (length args.page.now)) pre.j_value.1 in
    (p.within, p.fills)

pub stored-requires : goal.stored-requires
stored-requires c =
    let args = c.args in
    let pre = c.requires in
    (insert_few args.s args.name args.page.now (search rules) pre.passes, insert_rests args.s args.name args.page.now (search rules) pre.passes)

pub returns : goal.returns
returns c =
    let args = c.args in
    rw (
      c.stored.ensures.0,
      c.stored.ensures.1,
      c.stored.ensures.2,
      c.entered-regions.ensures,
      c.class_of.ensures,
      c.unused_at-at.ensures,
    ) (into_placed args.s args.name args.page.now args.j)
