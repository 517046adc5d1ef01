-- `queries::volume` meets its contract: the objects held are all that count.
use mathlib.Core.Path.{◌∙◌}
use native.Mathlib.Omega.{arith}
use lib.ListN.{take}
use lib.Seq.{length-take-le}
use borrow.Author.Rules.{rules}
use Rattle.sound_limits.proofs.Listed.{listed_taken}
use Rattle.state.proofs.Ready.{count_few}
use Rattle.state.proofs.Told.{limits_sound, held_all}
use Rattle.state.proofs.queries.volume.Goals as goal

pub shared_ref_as_front-volume : goal.shared_ref_as_front-volume
shared_ref_as_front-volume c =
    let s = c.args.c.state in
    let few = count_few s (limits_sound s c.args.c.holds) in (let g = c.well_formed in omega arith)

pub volume-requires : goal.volume-requires
volume-requires c =
    let s = c.args.c.state in
    let few = count_few s (limits_sound s c.args.c.holds) in
    (let g = c.well_formed in rw (length-take-le s.count s.objects.lens (omega arith)) (omega arith))

pub returns : goal.returns
returns c =
    let s = c.args.c.state in
    let o = s.objects in
    let few = count_few s (limits_sound s c.args.c.holds) in
    (rw (listed_taken o.names o.places o.lens s.count (let g = c.well_formed in omega arith))
    at (c.volume.ensures (take s.count o.names) (take s.count o.places)))
    ∙ rw (held_all s c.args.c.holds (let g = c.well_formed in search rules))
