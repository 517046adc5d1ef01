-- `read` meets its contract: the blank page where the tests refuse, or, once they pass, the part of the area where the name's object lies.
use mathlib.Core.Path.{refl, ap}
use mathlib.Core.List.{◌++◌}
use native.Mathlib.Omega.{arith}
use lib.ListN.{length}
use Rattle.rules.specs.Answers.{accepted}
use Rattle.rules.specs.Calls.{read_of, store_tests, name_tests}
use Rattle.state.specs.Model.{model_of}
use Rattle.refusals.proofs.Firsts.{same, is_done}
use Rattle.refusals.proofs.Known.{area_is}
use Rattle.asking.specs.Lent.{read_from}
use Rattle.asking.proofs.Telling.{reads, allows, told_refusal, asked, part_read, part_starts}
use Rattle.asking.proofs.read.Goals as goal

pub returns-in-Err-clause-bytes : goal.returns-in-Err-clause-bytes
unfolding read_of
returns-in-Err-clause-bytes c =
    let blank = c.args.blank in
    told_refusal _ (store_tests (model_of _) _ ++ name_tests (model_of _) _)
    (refl, (refl, (refl, (refl, tt)))) (reads _ _ _) c.in-Err.ensures (λ _. blank.now) _

pub returns-in-Err-clause-start : goal.returns-in-Err-clause-start
unfolding read_from
returns-in-Err-clause-start c =
    let blank = c.args.blank in
    told_refusal _ (store_tests (model_of _) _ ++ name_tests (model_of _) _)
    (refl, (refl, (refl, (refl, tt)))) (reads _ _ _) c.in-Err.ensures (λ _. blank.ref_ptr) _

pub find_now-place-requires : goal.find_now-place-requires
find_now-place-requires c =
    rw (same _ _ c.in-Ok.ensures) (asked _ _ _ (ap accepted (is_done _ c.in-Ok.ensures))).has

pub slice_bounds-result-end : goal.slice_bounds-result-end
slice_bounds-result-end c =
    let a = c.args in
    let k = asked (model_of a.s) (length a.area.now) a.name.0 (ap accepted (is_done _ c.in-Ok.ensures)) in
    let within = c.find_now-place.ensures.within_area.0 in
    omega (arith, rw (same _ _ c.in-Ok.ensures) at within, k.own, area_is a.s)

pub returns-in-Ok-clause-bytes : goal.returns-in-Ok-clause-bytes
returns-in-Ok-clause-bytes c =
    let there = rw (same _ _ c.in-Ok.ensures) at c.find_now-place.ensures.object_now in
    part_read _ _ _ _ _ _ (allows _ (reads _ _ _) c.in-Ok.ensures) there

pub returns-in-Ok-clause-start : goal.returns-in-Ok-clause-start
returns-in-Ok-clause-start c =
    let there = rw (same _ _ c.in-Ok.ensures) at c.find_now-place.ensures.object_now in
    part_starts _ _ _ _ _ _ _ (allows _ (reads _ _ _) c.in-Ok.ensures) there
