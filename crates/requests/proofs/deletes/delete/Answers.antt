-- `deletes::delete` meets its contract: the index found is the object's, and without it the rest goes on by a flush or with a record.
use Rattle.rules.specs.House.{classes}
use Prim.Native.Nat.{suc}
use mathlib.Core.Path.{refl, sym, ap, ◌∙◌, ◌≡◌}
use native.Mathlib.Omega.{arith}
use lib.ListN.{get_or, length}
use borrow.Author.Rules.{rules}
use Rattle.rules.specs.Calls.{Outcome}
use Rattle.state.specs.Model.{rests}
use Rattle.state.specs.declared.State.{State}
use Rattle.leaves.proofs.Room.{room_none}
use Rattle.requests.proofs.Starting.{lost_fits, drop_ready, drop_done, note_done}
use Rattle.requests.proofs.Allowed.{space, found_room, delete_rests, delete_done, gone, sought, gone_at}
use Rattle.requests.proofs.deletes.delete.Goals as goal

pub shared_ref_as_front-find : goal.shared_ref_as_front-find
shared_ref_as_front-find c = let k = c.well_formed in omega (arith, (gone c.args.s c.args.name c.requires _ refl).few)

pub unwrap-i-requires : goal.unwrap-i-requires
unwrap-i-requires c = let k = c.well_formed in rw c.find.ensures (sought c.args.s c.args.name c.requires (search rules))

pub dropping-requires-clause-at_rest : goal.dropping-requires-clause-at_rest
dropping-requires-clause-at_rest c =
    let args = c.args in
    let g = gone_at args.s args.name c.requires (search rules) c.find.ensures c.unwrap-i.ensures in (
      ap (λ (x : State). rests x.flush) c.without-rest.ensures.value_is ∙ delete_rests args.s args.name c.requires,
      (lost_fits args.s args.name c.unwrap-i.result g).0,
    )

pub dropping-requires-clause-ready : goal.dropping-requires-clause-ready
dropping-requires-clause-ready c =
    let args = c.args in
    let g = gone_at args.s args.name c.requires (search rules) c.find.ensures c.unwrap-i.ensures in
    let long : length args.s.regions.sizes ≡ suc classes = (let k = c.well_formed in search rules) in
    drop_ready args.s args.name c.unwrap-i.result g long c.without-rest.result c.without-rest.ensures

pub returns-in-None : goal.returns-in-None
returns-in-None c =
    let args = c.args in
    let pre = c.requires in
    let without = c.without-rest in
    let g = gone_at args.s args.name c.requires (search rules) c.find.ensures c.unwrap-i.ensures in
    let none = room_none _ _ _ _ _ (sym c.room.ensures.value ∙ c.in-None.is) in
    let done = drop_done args.s args.name c.unwrap-i.result g (delete_rests args.s args.name pre)
    (delete_done args.s args.name pre) without.result without.ensures none in
    (c.dropping.ensures ∙ ap (λ (o : Outcome). o.store) done, ap (λ (o : Outcome). o.answer) done)

pub noted-requires-clause-at_rest : goal.noted-requires-clause-at_rest
noted-requires-clause-at_rest c =
    ap (λ (x : State). rests x.flush) c.without-rest.ensures.value_is ∙ delete_rests c.args.s c.args.name c.requires

pub noted-requires-clause-j_le_classes : goal.noted-requires-clause-j_le_classes
noted-requires-clause-j_le_classes c =
    let args = c.args in
    let j = c.in-Some.j in
    let g = gone_at args.s args.name c.requires (search rules) c.find.ensures c.unwrap-i.ensures in
    let fits = lost_fits args.s args.name c.unwrap-i.result g in
    let found = found_room args.s.regions (get_or args.s.objects.lens c.unwrap-i.result 0) j fits.0 fits.1 (sym c.room.ensures.value ∙ c.in-Some.is) in
    let p = space args.s.regions g.at_rest (get_or args.s.objects.lens c.unwrap-i.result 0) j found.0 found.1 in
    (p.within, omega (arith, p.fills, ap (λ (x : State). get_or x.regions.useds j 0) c.without-rest.ensures.value_is))

pub returns-in-Some : goal.returns-in-Some
returns-in-Some c =
    let args = c.args in
    let pre = c.requires in
    let without = c.without-rest in
    let g = gone_at args.s args.name c.requires (search rules) c.find.ensures c.unwrap-i.ensures in
    let fits = lost_fits args.s args.name c.unwrap-i.result g in
    let found = found_room args.s.regions (get_or args.s.objects.lens c.unwrap-i.result 0) c.in-Some.j fits.0 fits.1
    (sym c.room.ensures.value ∙ c.in-Some.is) in
    let done = note_done args.s args.name c.unwrap-i.result g (delete_rests args.s args.name pre)
    (delete_done args.s args.name pre) without.result without.ensures c.in-Some.j found.1 found.0 in
    (c.noted.ensures ∙ ap (λ (o : Outcome). o.store) done, ap (λ (o : Outcome). o.answer) done)
