-- Law 9 at rest: the opened store is sound, and every accepted insert or delete that stays at rest gives a sound store.
use mathlib.Core.Path.{◌≡◌, refl}
use mathlib.Core.Bool.{true}
use mathlib.Core.List.{List, []}
use Prim.Native.Nat.{ℕ, ◌+◌, ◌≤◌, ◌<◌}
use native.Mathlib.Omega.{arith}
use lib.ListN.{length}
use Rattle.rules.specs.House.{classes, longest, most_objects, quota_of, most_name}
use Rattle.rules.specs.Classes.{Obj, cls, class_of, volume, place_before, insert_by_place}
use Rattle.rules.specs.Regions.{Regions, col, column, footprint, top_class, no_regions}
use Rattle.rules.specs.Placing.{entered, raised}
use Rattle.rules.specs.Stores.{Store, resting, resting_at}
use Rattle.rules.specs.Sound.{limits_hold, rest_rules, stage_holds, sound}
use Rattle.rules.specs.Calls.{object, others, insert_above, insert_into}
use Rattle.rules.proofs.Lists.{All, In, and_true, true_and}
use Rattle.rules.proofs.Tables.{column_at, span_same, span_zero}
use Rattle.rules.proofs.Facts.{Rest, rest_facts, rest_test, Fits, Limits, limits_facts, limits_test}
use Rattle.rules.proofs.RestKept.{into_rest, above_rest, record_rest}
use Rattle.rules.proofs.Limits.{limits_more, limits_less, Room}

-- a sound store at rest
pub record AtRest (q a : ℕ) (t : Regions) (os : List Obj) : Type 0 where
  pub limits : Limits q a os
  pub rest : Rest q t os 0

pub rest_sound : (q a : ℕ) (t : Regions) (os : List Obj) → AtRest q a t os → sound q (resting_at a t os) ≡ true
unfolding sound stage_holds
rest_sound q a t os r =
    true_and (limits_hold q a os) (rest_rules q t os 0) (limits_test q a os r.limits) (rest_test q t os 0 r.rest)

pub sound_rest : (q a : ℕ) (t : Regions) (os : List Obj) → sound q (resting_at a t os) ≡ true → AtRest q a t os
unfolding sound stage_holds
sound_rest q a t os e =
    let p = and_true (limits_hold q a os) (rest_rules q t os 0) e in
    record { limits = limits_facts q a os p.0; rest = rest_facts q t os 0 p.1 }

-- a store at rest is its area, its regions and its objects
pub resting_eta : (s : Store) → s.stage ≡ resting → s ≡ resting_at s.area s.regions s.objects
resting_eta s e = λ i. record { area = s.area; regions = s.regions; objects = s.objects; stage = e i }

-- OPEN
zeros : (i : ℕ) → i ≤ classes → col (column (λ k. 0)) i ≡ 0
zeros i l = column_at (λ k. 0) i l

pub open_rest : (q : ℕ) → Rest q no_regions [] 0
open_rest q = record {
  used_fits_lem = λ i a b. omega (arith, zeros i b);
  lowest_none = λ i a b z. zeros i b;
  lowest_some = λ i a b u. absurd (omega (arith, zeros i b));
  lies = tt;
  apart = tt;
  balance = λ k n a b c d. omega (arith, span_same (col (column (λ i. 0))) (λ i. 0) k n (λ i x y. zeros i (omega arith)), span_zero k n);
}

-- what the tests of an insert let through
pub record MayInsert (q a : ℕ) (os : List Obj) (n : ℕ) (page : List ℕ) : Type 0 where
  pub some_name : 1 ≤ n
  pub name_fits : n ≤ most_name
  pub some_length : 1 ≤ length page
  pub length_fits : length page ≤ longest
  pub new : All (λ (x : Obj). x.name ≡ n → ⊥) os
  pub few : length os < most_objects
  pub quota : volume os + length page ≤ quota_of q longest a

pub object_fits_lem : {q a n : ℕ} {os : List Obj} {page : List ℕ} → MayInsert q a os n page → (at : ℕ) → Fits (object n at page)
object_fits_lem m at = record { some_name = m.some_name; name_fits = m.name_fits; some_length = m.some_length; length_fits = m.length_fits }

-- INSERT ABOVE THE TOP CLASS
pub above_sound : (q a : ℕ) (t : Regions) (os : List Obj) (n : ℕ) (page : List ℕ) → AtRest q a t os → MayInsert q a os n page
    → top_class t.sizes < class_of (length page) → sound q (insert_above q (resting_at a t os) n page).store ≡ true
unfolding insert_above insert_by_place
above_sound q a t os n page s m top =
    let o = object n (footprint q t.sizes) page in
    rest_sound q a (raised t (cls o) o.len) (insert_by_place o os) (record {
      limits = limits_more place_before q a os o s.limits (object_fits_lem m (footprint q t.sizes)) m.new m.few m.quota;
      rest = above_rest q t os o s.rest s.limits.fits (object_fits_lem m (footprint q t.sizes)) top refl;
    })

-- INSERT INTO A BUFFER
pub into_sound : (q a : ℕ) (t : Regions) (os : List Obj) (n : ℕ) (page : List ℕ) (j : ℕ) → AtRest q a t os → MayInsert q a os n page
    → Room q t.sizes t.useds (length page) (class_of (length page)) classes j → sound q (insert_into q (resting_at a t os) n page j).store ≡ true
unfolding insert_into insert_by_place
into_sound q a t os n page j s m r =
    let at = (insert_into q (resting_at a t os) n page j).write.at in
    let o = object n at page in
    rest_sound q a (entered t j (cls o) o.len) (insert_by_place o os) (record {
      limits = limits_more place_before q a os o s.limits (object_fits_lem m at) m.new m.few m.quota;
      rest = into_rest q t os o j s.rest s.limits.fits (object_fits_lem m at) r.up r.within r.fits refl;
    })

-- DELETE WITH A RECORD
pub record_sound : (q a : ℕ) (t : Regions) (os : List Obj) (o : Obj) (j : ℕ) → AtRest q a t os → In o os
    → Room q t.sizes t.useds o.len (cls o) classes j → sound q (resting_at a (entered t j (cls o) o.len) (others o.name os)) ≡ true
record_sound q a t os o j s m r =
    rest_sound q a (entered t j (cls o) o.len) (others o.name os) (record {
      limits = limits_less q a os o.name s.limits;
      rest = record_rest q t os o j s.rest s.limits.fits s.limits.differ m r.up r.within r.fits;
    })
