-- `settled::in_place_order` meets its contract: at a flush's end key order is place order.
use mathlib.Core.Path.{◌∙◌}
use native.Mathlib.Omega.{arith}
use borrow.Author.Rules.{rules}
use Rattle.state.proofs.Ready.{count_few, length_some}
use Rattle.state.proofs.Told.{limits_sound}
use Rattle.flushing.proofs.Keys.{keys_few}
use Rattle.flushing.proofs.Settling.{sorted_end}
use Rattle.flushing.proofs.settled.in_place_order.Goals as goal

pub keys_of-keys-requires-clause-few : goal.keys_of-keys-requires-clause-few
keys_of-keys-requires-clause-few c =
    let few = count_few c.args.f.state (limits_sound c.args.f.state c.args.f.holds) in
    (few, omega (arith, few, c.requires.laid.1.kinds_length), omega (arith, few))

pub keys_of-keys-requires-clause-lens_fit : goal.keys_of-keys-requires-clause-lens_fit
keys_of-keys-requires-clause-lens_fit c = length_some c.args.f.state (limits_sound c.args.f.state c.args.f.holds)

pub reordered-requires : goal.reordered-requires
reordered-requires c =
    let s = c.args.f.state in
    let limits = limits_sound s c.args.f.holds in
    let few = count_few s limits in (
      omega (arith, few),
      few,
      rw c.keys_of-keys.ensures (keys_few _ _ _ few c.requires.laid.1.kinds_few (length_some s limits)),
    )

pub returns : goal.returns
returns c =
    let s = c.args.f.state in
    let p = c.requires in
    let few = count_few s (limits_sound s c.args.f.holds) in
    c.reordered.ensures
    ∙ rw (c.keys_of-keys.ensures, c.list_now.ensures, p.laid.0)
    (sorted_end s c.args.f.holds (search rules) c.args.f.runs (omega (arith, few)) p.last (rw p.laid.0 at p.laid.1.kinds_few))
