-- Law 9 where a flush begins: an insert or a delete that starts one gives a sound store. The rules at rest held before the
-- request, so they hold at the flush's start; the new object's own place does not enter the place computed for it.
use mathlib.Core.Path.{◌≡◌, refl, sym, ap}
use mathlib.Core.Bool.{true, false, ◌&&◌}
use mathlib.Core.List.{List, [], ◌∷◌, ◌++◌, append-nil}
use Prim.Native.Nat.{ℕ, ◌+◌}
use native.Mathlib.Omega.{arith}
use lib.ListN.{length}
use lib.Dec.{leb, eqb}
use borrow.Author.Tests.{eq-eqb, le-leb}
use Rattle.rules.specs.House.{longest, quota_of}
use Rattle.rules.specs.Classes.{Obj, class_of, volume}
use Rattle.rules.specs.Regions.{Regions}
use Rattle.rules.specs.Flush.{new_place, at_wait, plan}
use Rattle.rules.specs.Boundary.{boundary_of}
use Rattle.rules.specs.Stores.{Flush, flushing, Request, storing, dropping, new_of, resting_at, start_by, begun, ahead_of}
use Rattle.rules.specs.Sound.{limits_hold, within_quota, rest_rules, start_holds, due_fits, stage_holds, sound}
use Rattle.rules.specs.Calls.{object, named, others, insert_flush}
use Rattle.rules.proofs.Lists.{In, true_and, in_all}
use Rattle.rules.proofs.Facts.{rest_test, Fits, Distinct, limits_test}
use Rattle.rules.proofs.Insertion.{insert_last, parts_volume}
use Rattle.rules.proofs.Limits.{limits_more, limits_less}
use Rattle.rules.proofs.RestKept.{named_one, gone_rest}
use Rattle.rules.proofs.SoundKept.{AtRest, MayInsert, object_fits_lem}
use Rattle.rules.proofs.Starts.{boundary_by, placed_new_place}
use Rattle.rules.proofs.Steps.{begun_on}

-- a flush that begins at its request's boundary, from a start that holds, is sound
module _ (q a : ℕ) (t : Regions) (os : List Obj) (r : Request) where
  abbrev first : Flush
  first = record { request = r; boundary = boundary_by t r; made = 0; due = at_wait (plan q (start_by t os r (boundary_by t r))) }

  begun_sound : limits_hold q a (os ++ new_of r) ≡ true
      → start_holds q (begun q (resting_at a t os) r (boundary_by t r)) first r ≡ true → sound q (begun q (resting_at a t os) r (boundary_by t r)) ≡ true
  unfolding sound stage_holds
  begun_sound limits start =
      let s = begun q (resting_at a t os) r (boundary_by t r) in
      true_and (limits_hold q a (os ++ new_of r)) (stage_holds q s (flushing first)) limits
      (true_and (eqb (boundary_by t r) (boundary_by t r)) (start_holds q s first r && due_fits (ahead_of q s first) first.due)
      (eq-eqb (boundary_by t r) (boundary_by t r) refl)
      (true_and (start_holds q s first r) (due_fits (ahead_of q s first) first.due) start (begun_on q (resting_at a t os) r (boundary_by t r)).fits))

-- INSERT BY A FLUSH
pub insert_flush_sound : (q a : ℕ) (t : Regions) (os : List Obj) (n : ℕ) (page : List ℕ) → AtRest q a t os → MayInsert q a os n page
    → sound q (insert_flush q (resting_at a t os) n page).store ≡ true
unfolding insert_flush
insert_flush_sound q a t os n page s m =
    let b = boundary_of t.useds t.lowests (class_of (length page)) in
    let at = new_place q (start_by t os (storing (object n 0 page)) b) in
    let o = object n at page in
    begun_sound q a t os (storing o)
    (limits_test q a (os ++ (o ∷ []))
    (rw (insert_last o os) at (limits_more (λ x y. false) q a os o s.limits (object_fits_lem m at) m.new m.few m.quota)))
    (true_and (eqb at (new_place q (start_by t os (storing o) b))) (rest_rules q t os 0 && within_quota q a os 0)
    (eq-eqb at (new_place q (start_by t os (storing o) b)) (sym (placed_new_place t os (object n 0 page) at b q)))
    (true_and (rest_rules q t os 0) (within_quota q a os 0) (rest_test q t os 0 s.rest) (le-leb (volume os + 0) (quota_of q longest a) (omega (
      arith,
      s.limits.quota,
    )))))

-- with the object gone its length is gone from the volume
pub gone_volume : (os : List Obj) (o : Obj) → Distinct os → In o os → volume (others o.name os) + o.len ≡ volume os
unfolding named others volume
gone_volume os o d m = omega (arith, parts_volume (λ x. eqb x.name o.name) os, ap volume (named_one o os d m))

-- DELETE BY A FLUSH
pub delete_flush_sound : (q a : ℕ) (t : Regions) (os : List Obj) (o : Obj) → AtRest q a t os → In o os
    → sound q (begun q (resting_at a t (others o.name os)) (dropping o.len) (boundary_by t (dropping o.len))) ≡ true
delete_flush_sound q a t os o s m =
    let fo = in_all Fits os s.limits.fits o m in
    let rest = others o.name os in
    let less = limits_less q a os o.name s.limits in
    begun_sound q a t rest (dropping o.len)
    (rw append-nil (limits_test q a rest less))
    (true_and (leb 1 o.len && leb o.len longest) (rest_rules q t rest o.len && within_quota q a rest o.len)
    (true_and (leb 1 o.len) (leb o.len longest) (le-leb 1 o.len fo.some_length) (le-leb o.len longest fo.length_fits))
    (true_and (rest_rules q t rest o.len) (within_quota q a rest o.len) (rest_test q t rest o.len (gone_rest q t os o s.rest s.limits.differ m))
    (le-leb (volume rest + o.len) (quota_of q longest a) (omega (arith, gone_volume os o s.limits.differ m, s.limits.quota)))))
