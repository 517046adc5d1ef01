-- `holds` meets its contract: a name is held where the search finds it.
use native.Mathlib.Omega.{arith}
use borrow.Author.Rules.{rules}
use Rattle.edits.proofs.Finds.{found_some}
use Rattle.refusals.proofs.Known.{few, held_is}
use Rattle.refusals.proofs.holds.Goals as goal

pub shared_ref_as_front-find : goal.shared_ref_as_front-find
shared_ref_as_front-find c = omega (arith, few _ c.args.c.holds)

pub returns : goal.returns
returns c =
    let s = c.args.c.state in
    let o = s.objects in
    let n = c.well_formed in
    rw (c.is_some.ensures, c.find.ensures, held_is _ c.args.c.holds (search rules) _)
    (found_some o.names o.places o.lens s.count (omega (arith, few _ c.args.c.holds)) c.args.name)
