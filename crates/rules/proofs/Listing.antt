-- How each call changes the list: an insert adds its object where it writes, a delete takes away the objects of its name, a confirmation puts the
-- same objects in another order or leaves them.
use mathlib.Core.Path.{◌≡◌, refl, sym, ap, subst}
use mathlib.Core.Logic.{◌⊎◌, inl, inr}
use mathlib.Core.Bool.{not}
use mathlib.Core.List.{List, [], ◌∷◌, append-nil}
use Prim.Native.Nat.{ℕ}
use lib.Dec.{eqb}
use borrow.Author.Tests.{eqb-false, ne_eqb, not-true}
use Rattle.rules.specs.House.{share}
use Rattle.rules.specs.Classes.{Obj, insert_by_place, by_place}
use Rattle.rules.specs.Regions.{Regions}
use Rattle.rules.specs.Flush.{played}
use Rattle.rules.specs.Stores.{Store, flushing, Flush, resting_at, places_now, list_at, list_now}
use Rattle.rules.specs.Calls.{Outcome, object, others, insert_above, insert_into, insert_flush, inserted, deleted, confirm_in}
use Rattle.rules.proofs.Lists.{In, in_all, all_in_lem, in_filter}
use Rattle.rules.proofs.Names.{in_left, in_right, in_either, filter_in}
use Rattle.rules.proofs.Insertion.{insert_all, sort_all}
use Rattle.rules.proofs.Limits.{inserted_cases, deleted_cases}
use Rattle.rules.proofs.Accepted.{confirmed_cases}
use Rattle.rules.proofs.KeptClear.{uninsert_all, unsort_all}

-- INSERT: the page is written where the new object lies, and the others are still there
pub record Grown (a n : ℕ) (page : List ℕ) (os : List Obj) (o : Outcome) : Type 0 where
  pub long : o.store.area ≡ a
  pub wrote : o.write.bytes ≡ page
  pub new : In (object n o.write.at page) (list_now share o.store)
  pub old : (x : Obj) → In x os → In x (list_now share o.store)
  pub only : (x : Obj) → In x (list_now share o.store) → (x ≡ object n o.write.at page) ⊎ In x os

-- an object put among others by its place
among : (o : Obj) (os : List Obj)
    → In o (insert_by_place o os) × ((x : Obj) → In x os → In x (insert_by_place o os))
    × ((x : Obj) → In x (insert_by_place o os) → (x ≡ o) ⊎ In x os)
among o os =
    let zs = insert_by_place o os in
    let k = uninsert_all (λ y. In y zs) o os (all_in_lem (λ y. In y zs) zs (λ y m. m)) in
    let P : Obj → Type 0 = λ y. (y ≡ o) ⊎ In y os in
    (k.0, λ x m. in_all (λ y. In y zs) os k.1 x m, λ x m. in_all P zs (insert_all P o os (inl refl) (all_in_lem P os (λ y j. inr j))) x m)

pub inserted_grown : (a : ℕ) (t : Regions) (os : List Obj) (n : ℕ) (page : List ℕ) → Grown a n page os (inserted share (resting_at a t os) n page)
unfolding insert_above insert_into insert_flush list_now played
inserted_grown a t os n page = inserted_cases (Grown a n page os) share (resting_at a t os) n page
    (λ top. record { long = refl; wrote = refl; new = (among _ os).0; old = (among _ os).1; only = (among _ os).2 })
    (λ j r. record { long = refl; wrote = refl; new = (among _ os).0; old = (among _ os).1; only = (among _ os).2 })
    (record { long = refl; wrote = refl; new = in_right _ os _ (inl refl); old = λ x m. in_left x os _ m; only = λ x m. last x (in_either x os _ m) })
  where
    last : {o : Obj} (x : Obj) → In x os ⊎ In x (o ∷ []) → (x ≡ o) ⊎ In x os
    last {o = o} x (inr (inr x3)) = elim x3 [ ]
    last x (inl m) = inr m
    last x (inr (inl e)) = inl e

-- DELETE: nothing is written, and the objects of other names are left
pub record Shrunk (a n : ℕ) (os : List Obj) (o : Outcome) : Type 0 where
  pub long : o.store.area ≡ a
  pub silent : o.write ≡ record { at = 0; bytes = [] }
  pub old : (x : Obj) → In x os → (x.name ≡ n → ⊥) → In x (list_now share o.store)
  pub only : (x : Obj) → In x (list_now share o.store) → In x os × (x.name ≡ n → ⊥)

left : (n : ℕ) (os : List Obj) (x : Obj) → In x os → (x.name ≡ n → ⊥) → In x (others n os)
unfolding others
left n os x m d = in_filter (λ y. not (eqb y.name n)) x os (ap not (ne_eqb x.name n d)) m

left_only : (n : ℕ) (os : List Obj) (x : Obj) → In x (others n os) → In x os × (x.name ≡ n → ⊥)
unfolding others
left_only n os x m =
    let k = filter_in (λ y. not (eqb y.name n)) os x m in
    (k.0, eqb-false x.name n (not-true (eqb x.name n) k.1))

pub deleted_shrunk : (a : ℕ) (t : Regions) (os : List Obj) (n len : ℕ) → Shrunk a n os (deleted share (resting_at a t os) n len)
unfolding list_now played
deleted_shrunk a t os n len = deleted_cases (Shrunk a n os) share (resting_at a t os) n len
    (λ j r. record { long = refl; silent = refl; old = left n os; only = left_only n os })
    (record {
      long = refl;
      silent = refl;
      old = λ x m d. in_left x (others n os) [] (left n os x m d);
      only = λ x m. left_only n os x (rw (append-nil (others n os)) at m);
    })

-- CONFIRM: the same objects are listed
pub record Relisted (a : ℕ) (os : List Obj) (s : Store) : Type 0 where
  pub long : s.area ≡ a
  pub old : (x : Obj) → In x os → In x (list_now share s)
  pub only : (x : Obj) → In x (list_now share s) → In x os

pub confirmed_relisted : (s : Store) (f : Flush) → s.stage ≡ flushing f → Relisted s.area (places_now share s f) (confirm_in share s (flushing f))
unfolding list_now
confirmed_relisted s f runs = confirmed_cases (Relisted s.area (places_now share s f)) share s f
    (λ e. record {
      long = refl;
      old = λ x m. in_all (λ y. In y zs) os (unsort_all (λ y. In y zs) os (all_in_lem (λ y. In y zs) zs (λ y k. k))) x m;
      only = λ x m. in_all (λ y. In y os) zs (sort_all (λ y. In y os) os (all_in_lem (λ y. In y os) os (λ y k. k))) x m;
    })
    (record { long = refl; old = λ x m. m; only = λ x m. m })
    (record { long = refl; old = λ x m. subst (λ g. In x (list_at share s g)) (sym runs) m; only = λ x m. subst (λ g. In x (list_at share s g)) runs m })
  where
    os : List Obj
    os = places_now share s f

    zs : List Obj
    zs = by_place os
