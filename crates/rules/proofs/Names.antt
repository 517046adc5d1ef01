-- Names and lengths of lists of objects: what keeps them, and where names differ.
use mathlib.Core.Path.{◌≡◌, refl, sym, ap, ◌∙◌}
use mathlib.Core.Logic.{◌⊎◌, inl, inr}
use mathlib.Core.Bool.{Bool, true, false, cond}
use mathlib.Core.List.{List, [], ◌∷◌, ◌++◌, map, reverse, reverse_aux, reverse-reverse}
use Prim.Native.Nat.{ℕ, suc, ◌+◌, ◌-◌, ◌≤◌}
use native.Mathlib.Omega.{arith}
use lib.ListN.{length}
use lib.Dec.{eqb}
use borrow.Author.Tests.{eqb-true, eqb-false}
use Rattle.rules.specs.House.{longest, most_name}
use Rattle.rules.specs.Classes.{Obj, cls, placed, volume_of, filter}
use Rattle.rules.specs.Flush.{Move, stacked, packed, settled, moved}
use Rattle.rules.proofs.Lists.{All, In, in_all, all_in_lem, all_map, all_append, all_left, all_right, filter_all}
use Rattle.rules.proofs.Facts.{Fits, Distinct}

-- names and lengths, in order
abbrev pub kinds : List Obj → List Obj
kinds os = map (λ o. placed o 0) os

-- no object has the name n
abbrev pub Off : ℕ → List Obj → Type 0
Off n os = All (λ o. o.name ≡ n → ⊥) os

-- placing keeps them: each object gets a place, by a value that is handed on from one to the next
module _ {A : Type 0} (f : A → List Obj → List Obj) (at : A → Obj → ℕ) (next : A → Obj → A) where
  kinds_placed : ((a : A) → f a [] ≡ []) → ((a : A) (o : Obj) (os : List Obj) → f a (o ∷ os) ≡ placed o (at a o) ∷ f (next a o) os)
      → (a : A) (os : List Obj) → kinds (f a os) ≡ kinds os
  kinds_placed none one a [] = ap kinds (none a)
  kinds_placed none one a (o ∷ os) = ap kinds (one a o os) ∙ ap (λ xs. placed o 0 ∷ xs) (kinds_placed none one (next a o) os)

pub kinds_stacked : (from : ℕ) (os : List Obj) → kinds (stacked from os) ≡ kinds os
unfolding stacked
kinds_stacked = kinds_placed stacked (λ from o. from) (λ from o. from + o.len) (λ from. refl) (λ from o os. refl)

pub kinds_packed : (edge : ℕ) (os : List Obj) → kinds (packed edge os) ≡ kinds os
unfolding packed
kinds_packed = kinds_placed packed (λ edge o. edge - o.len) (λ edge o. edge - o.len) (λ edge. refl) (λ edge o os. refl)

pub kinds_settled : (home : ℕ → ℕ) (before os : List Obj) → kinds (settled home before os) ≡ kinds os
unfolding settled
kinds_settled home =
    kinds_placed (settled home) (λ before o. home (cls o) + volume_of (cls o) before) (λ before o. o ∷ before) (λ before. refl) (λ before o os. refl)

-- so do a move, and turning
pub kinds_moved : (m : Move) (os : List Obj) → kinds (moved m os) ≡ kinds os
unfolding moved
kinds_moved m [] = refl
kinds_moved m (o ∷ os) = elim (eqb o.name m.object.name) as
    (λ b. placed (cond b (placed o m.to) o) 0 ∷ kinds (moved m os) ≡ placed o 0 ∷ kinds os) [
      | true ↦ ap (λ xs. placed o 0 ∷ xs) (kinds_moved m os)
      | false ↦ ap (λ xs. placed o 0 ∷ xs) (kinds_moved m os)
    ]

pub kinds_append : (xs ys : List Obj) → kinds (xs ++ ys) ≡ kinds xs ++ kinds ys
kinds_append [] ys = refl
kinds_append (x ∷ xs) ys = ap (λ zs. placed x 0 ∷ zs) (kinds_append xs ys)

kinds_reverse : (xs ys : List Obj) → kinds (reverse_aux xs ys) ≡ reverse_aux (kinds xs) (kinds ys)
kinds_reverse [] ys = refl
kinds_reverse (x ∷ xs) ys = kinds_reverse xs (x ∷ ys)

pub kinds_turned : (edge : ℕ) (os : List Obj) → kinds (reverse (packed edge (reverse os))) ≡ kinds os
kinds_turned edge os =
    kinds_reverse (packed edge (reverse os)) [] ∙ ap reverse (kinds_packed edge (reverse os) ∙ kinds_reverse os []) ∙ reverse-reverse (kinds os)

pub all_reverse : (P : Obj → Type 0) (xs ys : List Obj) → All P xs → All P ys → All P (reverse_aux xs ys)
all_reverse P [] ys h k = k
all_reverse P (x ∷ xs) ys h k = all_reverse P xs (x ∷ ys) h.1 (h.0, k)

-- what holds by name and length holds of another list of the same names and lengths
pub all_kinds : (P : ℕ → ℕ → Type 0) (xs ys : List Obj) → kinds xs ≡ kinds ys → All (λ o. P o.name o.len) xs
    → All (λ o. P o.name o.len) ys
all_kinds P [] [] e h = tt
all_kinds P [] (y ∷ ys) e h = let z : ◌≡◌ {A = ℕ} 0 1 = cc in absurd (omega arith)
all_kinds P (x ∷ xs) [] e h = let z : ◌≡◌ {A = ℕ} 0 1 = cc in absurd (omega arith)
all_kinds P (x ∷ xs) (y ∷ ys) e h =
    let k : placed x 0 ≡ placed y 0 = cc in
    let t : kinds xs ≡ kinds ys = cc in
    let n : x.name ≡ y.name = ap (λ o. o.name) k in
    let l : x.len ≡ y.len = ap (λ o. o.len) k in
    (rw (← n, ← l) h.0, all_kinds P xs ys t h.1)

pub off_kinds : (n : ℕ) (xs ys : List Obj) → kinds xs ≡ kinds ys → Off n xs → Off n ys
off_kinds n xs ys e h = all_kinds (λ k l. k ≡ n → ⊥) xs ys e h

-- each object of one has its twin in the other
pub twin : (xs ys : List Obj) → kinds xs ≡ kinds ys → (y : Obj) → In y ys → (x : Obj) × In x xs × (x.name ≡ y.name) × (x.len ≡ y.len)
twin xs ys e y m =
    in_all (λ o. (x : Obj) × In x xs × (x.name ≡ o.name) × (x.len ≡ o.len)) ys
    (all_kinds (λ n l. (x : Obj) × In x xs × (x.name ≡ n) × (x.len ≡ l)) xs ys e
    (all_in_lem (λ o. (x : Obj) × In x xs × (x.name ≡ o.name) × (x.len ≡ o.len)) xs (λ o k. (o, k, refl, refl)))) y m

pub distinct_kinds : (xs ys : List Obj) → kinds xs ≡ kinds ys → Distinct xs → Distinct ys
distinct_kinds [] [] e d = tt
distinct_kinds [] (y ∷ ys) e d = let z : ◌≡◌ {A = ℕ} 0 1 = cc in absurd (omega arith)
distinct_kinds (x ∷ xs) [] e d = let z : ◌≡◌ {A = ℕ} 0 1 = cc in absurd (omega arith)
distinct_kinds (x ∷ xs) (y ∷ ys) e d =
    let k : placed x 0 ≡ placed y 0 = cc in
    let t : kinds xs ≡ kinds ys = cc in
    let n : x.name ≡ y.name = ap (λ o. o.name) k in
    (rw (← n) (off_kinds x.name xs ys t d.0), distinct_kinds xs ys t d.1)

-- a move keeps names different
pub distinct_moved : (m : Move) (os : List Obj) → Distinct os → Distinct (moved m os)
distinct_moved m os d = distinct_kinds os (moved m os) (sym (kinds_moved m os)) d

-- lists of the same names and lengths have the same limits, and as many objects
pub fits_kinds : (xs ys : List Obj) → kinds xs ≡ kinds ys → All Fits xs → All Fits ys
fits_kinds xs ys e h =
    all_map (λ o k. record { some_name = k.0; name_fits = k.1; some_length = k.2; length_fits = k.3 }) ys
    (all_kinds (λ n l. (1 ≤ n) × (n ≤ most_name) × (1 ≤ l) × (l ≤ longest)) xs ys e
    (all_map (λ o f. (f.some_name, f.name_fits, f.some_length, f.length_fits)) xs h))

pub kinds_length : (xs : List Obj) → length (kinds xs) ≡ length xs
kinds_length [] = refl
kinds_length (x ∷ xs) = ap suc (kinds_length xs)

-- an object of a name, or none of that name
pub search_name : (n : ℕ) (os : List Obj) → ((o : Obj) × In o os × (o.name ≡ n)) ⊎ Off n os
search_name n [] = inr tt
search_name n (o ∷ os) = elim (eqb o.name n) as (λ b. eqb o.name n ≡ b → ((x : Obj) × In x (o ∷ os) × (x.name ≡ n)) ⊎ Off n (o ∷ os)) [
  | true ↦ λ e. inl (o, inl refl, eqb-true o.name n e)
  | false ↦ λ e. elim (search_name n os) [
    | inl k ↦ inl (k.0, inr k.1, k.2)
    | inr h ↦ inr (eqb-false o.name n e, h)
  ]
] refl

-- where names differ, a name has one object
pub unique : (os : List Obj) → Distinct os → (x y : Obj) → In x os → In y os → x.name ≡ y.name → x ≡ y
unique [] d x y x6 _ e = elim x6 [ ]
unique (o ∷ os) d x y (inl a) (inl b) e = a ∙ sym b
unique (o ∷ os) d x y (inl a) (inr m) e = absurd (in_all (λ z. z.name ≡ o.name → ⊥) os d.0 y m (sym e ∙ ap (λ z. z.name) a))
unique (o ∷ os) d x y (inr m) (inl b) e = absurd (in_all (λ z. z.name ≡ o.name → ⊥) os d.0 x m (e ∙ ap (λ z. z.name) b))
unique (o ∷ os) d x y (inr m) (inr k) e = unique os d.1 x y m k e

-- an object of one list or of another
pub in_left : (o : Obj) (xs ys : List Obj) → In o xs → In o (xs ++ ys)
in_left o [] ys x' = elim x' [ ]
in_left o (x ∷ xs) ys (inl e) = inl e
in_left o (x ∷ xs) ys (inr m) = inr (in_left o xs ys m)

pub in_right : (o : Obj) (xs ys : List Obj) → In o ys → In o (xs ++ ys)
in_right o [] ys m = m
in_right o (x ∷ xs) ys m = inr (in_right o xs ys m)

pub in_either : (o : Obj) (xs ys : List Obj) → In o (xs ++ ys) → In o xs ⊎ In o ys
in_either o [] ys m = inr m
in_either o (x ∷ xs) ys (inl e) = inl (inl e)
in_either o (x ∷ xs) ys (inr m) = elim (in_either o xs ys m) [ inl k ↦ inl (inr k) | inr k ↦ inr k ]

-- an object that a filter keeps
pub filter_in : (f : Obj → Bool) (os : List Obj) (o : Obj) → In o (filter f os) → In o os × (f o ≡ true)
filter_in f os o m = in_all (λ x. In x os × (f x ≡ true)) (filter f os) (filter_all (λ x. In x os) f os (all_in_lem (λ x. In x os) os (λ x k. k))) o m

-- names differ in parts, and in what is put together of parts with no name in common
pub distinct_left : (xs ys : List Obj) → Distinct (xs ++ ys) → Distinct xs
distinct_left [] ys d = tt
distinct_left (x ∷ xs) ys d = (all_left (λ o. o.name ≡ x.name → ⊥) xs ys d.0, distinct_left xs ys d.1)

pub distinct_right : (xs ys : List Obj) → Distinct (xs ++ ys) → Distinct ys
distinct_right [] ys d = d
distinct_right (x ∷ xs) ys d = distinct_right xs ys d.1

pub distinct_apart : (xs ys : List Obj) → Distinct (xs ++ ys) → (x : Obj) → In x xs → Off x.name ys
distinct_apart [] ys d x x4 = elim x4 [ ]
distinct_apart (z ∷ xs) ys d x (inl e) = rw e (all_right (λ o. o.name ≡ z.name → ⊥) xs ys d.0)
distinct_apart (z ∷ xs) ys d x (inr m) = distinct_apart xs ys d.1 x m

pub distinct_append : (xs ys : List Obj) → Distinct xs → Distinct ys → ((x : Obj) → In x xs → Off x.name ys) → Distinct (xs ++ ys)
distinct_append [] ys d k f = k
distinct_append (x ∷ xs) ys d k f = (
  all_append (λ o. o.name ≡ x.name → ⊥) xs ys d.0 (f x (inl refl)),
  distinct_append xs ys d.1 k (λ o m. f o (inr m)),
)

-- maps over lists
pub map_same : (f g : Obj → Obj) (os : List Obj) → ((o : Obj) → In o os → f o ≡ g o) → map f os ≡ map g os
map_same f g [] h = refl
map_same f g (o ∷ os) h = rw (h o (inl refl)) (ap (λ xs. g o ∷ xs) (map_same f g os (λ x m. h x (inr m))))

pub in_map : (f : Obj → Obj) (o : Obj) (os : List Obj) → In o os → In (f o) (map f os)
in_map f o [] x' = elim x' [ ]
in_map f o (x ∷ os) (inl e) = inl (ap f e)
in_map f o (x ∷ os) (inr m) = inr (in_map f o os m)
