-- The limits are kept by one object more and by one less; what the tests of an insert and a delete tell of a name; where the
-- search for room ends; and so which ways an accepted insert and an accepted delete go.
use mathlib.Core.Path.{◌≡◌, refl, ap}
use mathlib.Core.Logic.{inl, inr}
use mathlib.Core.Bool.{Bool, true, false, cond, not}
use mathlib.Core.List.{List, [], ◌∷◌}
use Prim.Native.Nat.{ℕ, zero, suc, ◌+◌, ◌-◌, ◌≤◌, ◌<◌}
use native.Mathlib.Omega.{arith}
use lib.ListN.{length}
use lib.Dec.{leb, ltb, eqb}
use borrow.Author.Tests.{leb-true, leb-false, ltb-true, ltb-false, eqb-true, eqb-false}
use Rattle.rules.specs.House.{classes, longest, most_objects, quota_of}
use Rattle.rules.specs.Classes.{Obj, class_of, volume, filter, insert_by}
use Rattle.rules.specs.Regions.{col, buffer_size, top_from, top_class}
use Rattle.rules.specs.Placing.{room_from, room_for, entered}
use Rattle.rules.specs.Stores.{Store, dropping, resting_at, begun}
use Rattle.rules.specs.Calls.{Outcome, answering, named, others, insert_above, insert_into, insert_flush, room_in, boundary_for, inserted, deleted}
use Rattle.rules.specs.declared.Answer.TheVariants.{Done, Running}
use Rattle.rules.proofs.Lists.{All, In}
use Rattle.rules.proofs.Facts.{Fits, Limits}
use Rattle.rules.proofs.Insertion.{insert_by_all, insert_by_length, insert_by_volume, insert_by_distinct, filter_keeps, filter_distinct}
use Rattle.rules.proofs.Insertion.{filter_length, parts_volume}

-- ONE MORE, wherever a test puts it
pub limits_more : (before : Obj → Obj → Bool) (q a : ℕ) (os : List Obj) (o : Obj) → Limits q a os → Fits o
    → All (λ (x : Obj). x.name ≡ o.name → ⊥) os
    → length os < most_objects → volume os + o.len ≤ quota_of q longest a → Limits q a (insert_by before o os)
limits_more before q a os o l f new few quota = record {
  area_least = l.area_least;
  area_most = l.area_most;
  few = omega (arith, insert_by_length before o os);
  fits = insert_by_all before Fits o os f l.fits;
  differ = insert_by_distinct before o os new l.differ;
  quota = omega (arith, insert_by_volume before o os);
}

-- ONE LESS
pub limits_less : (q a : ℕ) (os : List Obj) (n : ℕ) → Limits q a os → Limits q a (others n os)
unfolding others
limits_less q a os n l = record {
  area_least = l.area_least;
  area_most = l.area_most;
  few = omega (arith, filter_length (λ x. not (eqb x.name n)) os, l.few);
  fits = filter_keeps Fits (λ x. not (eqb x.name n)) os l.fits;
  differ = filter_distinct (λ x. not (eqb x.name n)) os l.differ;
  quota = omega (arith, parts_volume (λ x. eqb x.name n) os, l.quota);
}

-- a name that is not held is no object's
pub not_held : (n : ℕ) (os : List Obj) → ltb 0 (length (named n os)) ≡ false → All (λ (x : Obj). x.name ≡ n → ⊥) os
unfolding named filter
not_held n [] e = tt
not_held n (x ∷ xs) e = (elim (eqb x.name n) as
    (λ b. eqb x.name n ≡ b → ltb 0 (length (cond b (x ∷ filter (λ o. eqb o.name n) xs) (filter (λ o. eqb o.name n) xs))) ≡ false
    → All (λ (y : Obj). y.name ≡ n → ⊥) (x ∷ xs)) [
      | true ↦ λ p h. absurd (omega (arith, ltb-false 0 (suc (length (filter (λ o. eqb o.name n) xs))) h))
      | false ↦ λ p h. (eqb-false x.name n p, not_held n xs h)
    ]) refl e

-- a name that is held is some object's
pub record Held (n : ℕ) (os : List Obj) : Type 0 where
  pub object : Obj
  pub among : In object os
  pub called : object.name ≡ n

pub is_held : (n : ℕ) (os : List Obj) → ltb 0 (length (named n os)) ≡ true → Held n os
unfolding named filter
is_held n [] e = absurd (omega (arith, ltb-true 0 0 e))
is_held n (x ∷ xs) e = (elim (eqb x.name n) as
    (λ b. eqb x.name n ≡ b → ltb 0 (length (cond b (x ∷ filter (λ o. eqb o.name n) xs) (filter (λ o. eqb o.name n) xs))) ≡ true
    → Held n (x ∷ xs)) [
      | true ↦ λ p h. record { object = x; among = inl refl; called = eqb-true x.name n p }
      | false ↦ λ p h. let r = is_held n xs h in record { object = r.object; among = inr r.among; called = r.called }
    ]) refl e

-- ROOM: the buffer found is one of those searched, and has the room
pub record Room (q : ℕ) (sizes useds : List ℕ) (n c top j : ℕ) : Type 0 where
  pub up : c ≤ j
  pub within : j ≤ top
  pub fits : col useds j + n ≤ buffer_size q sizes j

room_from_lem : (q : ℕ) (sizes useds : List ℕ) (n c top j m : ℕ) → c ≤ j → j + m ≤ suc top → (room_from q sizes useds n j m ≡ 0 → ⊥)
    → Room q sizes useds n c top (room_from q sizes useds n j m)
unfolding room_from
room_from_lem q sizes useds n c top j zero a b e = absurd (e refl)
room_from_lem q sizes useds n c top j (suc m) a b e =
    (elim (leb (col useds j + n) (buffer_size q sizes j)) as (λ x. leb (col useds j + n) (buffer_size q sizes j) ≡ x
    → (cond x j (room_from q sizes useds n (suc j) m) ≡ 0 → ⊥) → Room q sizes useds n c top (cond x j (room_from q sizes useds n (suc j) m))) [
      | true ↦ λ h k. record { up = a; within = omega arith; fits = leb-true (col useds j + n) (buffer_size q sizes j) h }
      | false ↦ λ h k. room_from_lem q sizes useds n c top (suc j) m (omega arith) (omega arith) k
    ]) refl e

top_within : (sizes : List ℕ) (k : ℕ) → top_from sizes k ≤ k
unfolding top_from
top_within sizes zero = omega arith
top_within sizes (suc k) = elim (ltb 0 (col sizes (suc k))) as (λ b. cond b (suc k) (top_from sizes k) ≤ suc k) [
  | true ↦ omega arith
  | false ↦ omega (arith, top_within sizes k)
]

pub room_law : (q : ℕ) (sizes useds : List ℕ) (c n : ℕ) → (room_for q sizes useds c n ≡ 0 → ⊥)
    → Room q sizes useds n c classes (room_for q sizes useds c n)
unfolding room_from
room_law q sizes useds c n e =
    (elim (leb c (top_class sizes)) as (λ b. leb c (top_class sizes) ≡ b → Room q sizes useds n c classes (room_for q sizes useds c n)) [
      | true ↦ λ l.
          let m = leb-true c (top_class sizes) l in
          let r = room_from_lem q sizes useds n c (top_class sizes) c (suc (top_class sizes) - c) (omega arith) (omega arith) e in
          record { up = r.up; within = omega (arith, r.within, top_within sizes classes); fits = r.fits }
      | false ↦ λ l.
          let m = leb-false c (top_class sizes) l in
          let z : suc (top_class sizes) - c ≡ 0 = omega arith in
          absurd (e (ap (room_from q sizes useds n c) z))
    ]) refl

-- the three ways of an accepted insert, and the two of an accepted delete
module _ (P : Outcome → Type 0) (q : ℕ) (s : Store) where
  pub inserted_cases : (n : ℕ) (page : List ℕ) → (top_class s.regions.sizes < class_of (length page) → P (insert_above q s n page))
      → ((j : ℕ) → Room q s.regions.sizes s.regions.useds (length page) (class_of (length page)) classes j → P (insert_into q s n page j))
      → P (insert_flush q s n page) → P (inserted q s n page)
  unfolding inserted
  inserted_cases n page above into flushed =
      let top = top_class s.regions.sizes in
      let c = class_of (length page) in
      let j = room_in q s (length page) in
      elim (ltb top c) as (λ x. ltb top c ≡ x → P (cond x (insert_above q s n page) (cond (eqb j 0) (insert_flush q s n page) (insert_into q s n page j)))) [
        | true ↦ λ e. above (ltb-true top c e)
        | false ↦ λ e. elim (eqb j 0) as (λ x. eqb j 0 ≡ x → P (cond x (insert_flush q s n page) (insert_into q s n page j))) [
          | true ↦ λ f. flushed
          | false ↦ λ f. into j (room_law q s.regions.sizes s.regions.useds c (length page) (eqb-false j 0 f))
        ] refl
      ] refl

  pub deleted_cases : (n len : ℕ)
      → ((j : ℕ) → Room q s.regions.sizes s.regions.useds len (class_of len) classes j
      → P (answering (resting_at s.area (entered s.regions j (class_of len) len) (others n s.objects)) Done))
      → P (answering (begun q (resting_at s.area s.regions (others n s.objects)) (dropping len) (boundary_for s len)) Running)
      → P (deleted q s n len)
  unfolding deleted
  deleted_cases n len noted flushed =
      let j = room_in q s len in
      let gone = others n s.objects in
      elim (eqb j 0) as (λ x. eqb j 0 ≡ x → P
      (cond x (answering (begun q (resting_at s.area s.regions gone) (dropping len) (boundary_for s len)) Running)
      (answering (resting_at s.area (entered s.regions j (class_of len) len) gone) Done))) [
        | true ↦ λ f. flushed
        | false ↦ λ f. noted j (room_law q s.regions.sizes s.regions.useds (class_of len) len (eqb-false j 0 f))
      ] refl
