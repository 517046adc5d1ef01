-- Objects in rising place order: a list of given objects that lies apart in rising order is the only one.
-- The first of such a list is the lowest of all its objects, since each object has a length. Two such lists of the same objects have the same first, and so on.
use mathlib.Core.Path.{◌≡◌, refl, sym, ap}
use mathlib.Core.Logic.{◌⊎◌, inl, inr}
use mathlib.Core.Bool.{true, false, cond}
use mathlib.Core.List.{List, [], ◌∷◌}
use Prim.Native.Nat.{ℕ, ◌≤◌}
use native.Mathlib.Omega.{arith}
use lib.Dec.{ltb}
use Rattle.rules.specs.Classes.{Obj, end_of, insert_by_place, by_place}
use Rattle.rules.proofs.Lists.{All, In}
use Rattle.rules.proofs.Facts.{Chain}
use Rattle.rules.proofs.Lifting.{chain_above}

-- every object has a length
abbrev pub Long : List Obj → Type 0
Long os = All (λ o. 1 ≤ o.len) os

-- the same objects, each way
pub record Same (xs ys : List Obj) : Type 0 where
  pub there : (o : Obj) → In o xs → In o ys
  pub back : (o : Obj) → In o ys → In o xs

-- an object lies nowhere behind its own end
not_behind : (x : Obj) (os : List Obj) → 1 ≤ x.len → Chain (end_of x) os → In x os → ⊥
not_behind x os l c m = omega (arith, chain_above (end_of x) os c x m)

first_same : (x y : Obj) (xs ys : List Obj) → 1 ≤ x.len → 1 ≤ y.len → Chain (end_of x) xs → Chain (end_of y) ys
    → (x ≡ y) ⊎ In x ys → (y ≡ x) ⊎ In y xs → x ≡ y
first_same x y xs ys l m c d (inl e) b = e
first_same x y xs ys l m c d (inr a) (inl e) = sym e
first_same x y xs ys l m c d (inr a) (inr b) = absurd (omega (arith, chain_above (end_of y) ys d x a, chain_above (end_of x) xs c y b))

rest_same : (x : Obj) (xs ys : List Obj) → 1 ≤ x.len → Chain (end_of x) xs → ((o : Obj) → In o (x ∷ xs) → In o (x ∷ ys)) → (o : Obj)
    → In o xs → In o ys
rest_same x xs ys l c f o m = elim (f o (inr m)) [
  | inl e ↦ absurd (not_behind x xs l c (rw e at m))
  | inr k ↦ k
]

-- two chains of the same objects are the same
pub sorted_unique : (xs ys : List Obj) (lo hi : ℕ) → Chain lo xs → Chain hi ys → Long xs → Long ys → Same xs ys → xs ≡ ys
sorted_unique [] [] lo hi c d l m s = refl
sorted_unique [] (y ∷ ys) lo hi c d l m s = absurd (s.back y (inl refl))
sorted_unique (x ∷ xs) [] lo hi c d l m s = absurd (s.there x (inl refl))
sorted_unique (x ∷ xs) (y ∷ ys) lo hi c d l m s =
    let e : x ≡ y = first_same x y xs ys l.0 m.0 c.1 d.1 (s.there x (inl refl)) (s.back y (inl refl)) in
    let t : (o : Obj) → In o (y ∷ xs) → In o (y ∷ ys) = rw e at s.there in
    let b : (o : Obj) → In o (y ∷ ys) → In o (y ∷ xs) = rw e at s.back in
    let k : Chain (end_of y) xs = rw e at c.1 in
    rw e (ap (λ (os : List Obj). y ∷ os) (sorted_unique xs ys (end_of y) (end_of y) k d.1 l.1 m.1
    (record { there = rest_same y xs ys m.0 k t; back = rest_same y ys xs m.0 d.1 b })))

-- sorting keeps the objects
insert_in : (o x : Obj) (os : List Obj) → In x (insert_by_place o os) → (x ≡ o) ⊎ In x os
unfolding insert_by_place
insert_in o x [] m = m
insert_in o x (y ∷ ys) m = (elim (ltb o.at y.at) as
    (λ b. In x (cond b (o ∷ y ∷ ys) (y ∷ insert_by_place o ys)) → (x ≡ o) ⊎ In x (y ∷ ys)) [
      | true ↦ λ k. k
      | false ↦ λ k. elim k [
        | inl e ↦ inr (inl e)
        | inr n ↦ elim (insert_in o x ys n) [ inl e ↦ inl e | inr i ↦ inr (inr i) ]
      ]
    ]) m

in_insert : (o x : Obj) (os : List Obj) → (x ≡ o) ⊎ In x os → In x (insert_by_place o os)
unfolding insert_by_place
in_insert o x [] m = m
in_insert o x (y ∷ ys) m = elim (ltb o.at y.at) as (λ b. In x (cond b (o ∷ y ∷ ys) (y ∷ insert_by_place o ys))) [
  | true ↦ m
  | false ↦ elim m [
    | inl e ↦ inr (in_insert o x ys (inl e))
    | inr k ↦ elim k [ inl e ↦ inl e | inr i ↦ inr (in_insert o x ys (inr i)) ]
  ]
]

pub sort_in : (x : Obj) (os : List Obj) → In x (by_place os) → In x os
unfolding by_place
sort_in x [] m = m
sort_in x (o ∷ os) m = elim (insert_in o x (by_place os) m) [ inl e ↦ inl e | inr k ↦ inr (sort_in x os k) ]

pub in_sort : (x : Obj) (os : List Obj) → In x os → In x (by_place os)
unfolding by_place
in_sort x [] m = elim m [ ]
in_sort x (o ∷ os) (inl e) = in_insert o x (by_place os) (inl e)
in_sort x (o ∷ os) (inr m) = in_insert o x (by_place os) (inr (in_sort x os m))
