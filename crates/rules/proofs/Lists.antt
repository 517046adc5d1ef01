-- Lists of objects: what holds of all of them, membership, tests over them, and their volumes. And bytes copied into a place.
use mathlib.Core.Path.{◌≡◌, refl, sym, ap, ◌∙◌}
use mathlib.Core.Logic.{◌⊎◌, inl, inr}
use mathlib.Core.Bool.{Bool, true, false, cond, ◌&&◌, ◌||◌}
use mathlib.Core.List.{List, [], ◌∷◌, ◌++◌, append-nil}
use Prim.Native.Nat.{ℕ, ◌+◌, ◌*◌}
use native.Mathlib.Nat.{mul-zero, mul-suc}
use native.Mathlib.Omega.{arith}
use lib.ListN.{length, take, drop}
use lib.Seq.{take-length, drop-length}
use Rattle.rules.specs.Classes.{Obj, volume, volume_of, filter}
use Rattle.rules.specs.Sound.{each}
use Rattle.rules.specs.History.{Every}

-- true is not false
pub clash : {t : Bool} → t ≡ true → t ≡ false → ⊥
clash p q = let z : ◌≡◌ {A = ℕ} 0 1 = cc in omega arith

-- a test that cannot hold is false
pub is_false : (t : Bool) → (t ≡ true → ⊥) → t ≡ false
is_false true f = absurd (f refl)
is_false false f = refl

-- the two parts of a test
pub and_true : (a b : Bool) → (a && b) ≡ true → (a ≡ true) × (b ≡ true)
and_true true b e = (refl, e)
and_true false b e = absurd (clash refl (sym e))

pub true_and : (a b : Bool) → a ≡ true → b ≡ true → (a && b) ≡ true
true_and a b p q = rw (p, q)

pub or_true : (a b : Bool) → (a || b) ≡ true → (a ≡ true) ⊎ (b ≡ true)
or_true true b e = inl refl
or_true false b e = inr e

pub or_left : (a b : Bool) → a ≡ true → (a || b) ≡ true
or_left a b e = rw e

pub or_right : (a b : Bool) → b ≡ true → (a || b) ≡ true
or_right true b e = refl
or_right false b e = e

-- what holds of everything in a list, by what it gives
pub every_map : {A : Type 0} {P Q : A → Type 0} → ((x : A) → P x → Q x) → (xs : List A) → Every P xs → Every Q xs
every_map f [] h = tt
every_map f (x ∷ xs) h = (f x h.0, every_map f xs h.1)

-- what passes in two lists passes in both together
pub every_append : {A : Type 0} (P : A → Type 0) (xs ys : List A) → Every P xs → Every P ys → Every P (xs ++ ys)
every_append P [] ys a b = b
every_append P (x ∷ xs) ys a b = (a.0, every_append P xs ys a.1 b)

-- one more in front of a list, or not
pub cond_append : {A : Type 0} (t : Bool) (x : A) (xs ys : List A) → cond t (x ∷ (xs ++ ys)) (xs ++ ys) ≡ cond t (x ∷ xs) xs ++ ys
cond_append true x xs ys = refl
cond_append false x xs ys = refl

-- every object passes
abbrev pub All : (Obj → Type 0) → List Obj → Type 0
All = Every

-- each two pass
abbrev pub Pairs : (Obj → Obj → Type 0) → List Obj → Type 0
Pairs R [] = Unit {0}
Pairs R (o ∷ os) = All (R o) os × Pairs R os

-- an object is one of the list
abbrev pub In : Obj → List Obj → Type 0
In o [] = ⊥
In o (x ∷ xs) = (o ≡ x) ⊎ In o xs

pub in_all : (P : Obj → Type 0) (os : List Obj) → All P os → (o : Obj) → In o os → P o
in_all P [] h o m = absurd m
in_all P (x ∷ xs) h o (inl e) = rw e h.0
in_all P (x ∷ xs) h o (inr m) = in_all P xs h.1 o m

pub all_in_lem : (P : Obj → Type 0) (os : List Obj) → ((o : Obj) → In o os → P o) → All P os
all_in_lem P [] f = tt
all_in_lem P (x ∷ xs) f = (f x (inl refl), all_in_lem P xs (λ o m. f o (inr m)))

pub all_append : (P : Obj → Type 0) (xs ys : List Obj) → All P xs → All P ys → All P (xs ++ ys)
all_append = every_append

pub all_left : (P : Obj → Type 0) (xs ys : List Obj) → All P (xs ++ ys) → All P xs
all_left P [] ys h = tt
all_left P (x ∷ xs) ys h = (h.0, all_left P xs ys h.1)

pub all_right : (P : Obj → Type 0) (xs ys : List Obj) → All P (xs ++ ys) → All P ys
all_right P [] ys h = h
all_right P (x ∷ xs) ys h = all_right P xs ys h.1

module _ {P Q : Obj → Type 0} where
  pub all_map : ((o : Obj) → P o → Q o) → (os : List Obj) → All P os → All Q os
  all_map = every_map

-- two things hold of all
pub all_both : (P Q : Obj → Type 0) (os : List Obj) → All P os → All Q os → All (λ o. P o × Q o) os
all_both P Q [] h k = tt
all_both P Q (o ∷ os) h k = ((h.0, k.0), all_both P Q os h.1 k.1)

-- a test over a list, both ways
pub each_all : (f : Obj → Bool) (os : List Obj) → each f os ≡ true → All (λ o. f o ≡ true) os
unfolding each
each_all f [] e = tt
each_all f (o ∷ os) e = let p = and_true (f o) (each f os) e in (p.0, each_all f os p.1)

pub all_each : (f : Obj → Bool) (os : List Obj) → All (λ o. f o ≡ true) os → each f os ≡ true
unfolding each
all_each f [] h = refl
all_each f (o ∷ os) h = true_and (f o) (each f os) h.0 (all_each f os h.1)

-- what a filter keeps
pub filter_all : (P : Obj → Type 0) (f : Obj → Bool) (os : List Obj) → All P os → All (λ o. P o × (f o ≡ true)) (filter f os)
unfolding filter
filter_all P f [] h = tt
filter_all P f (o ∷ os) h = (elim (f o) as (λ b. f o ≡ b → All (λ x. P x × (f x ≡ true)) (cond b (o ∷ filter f os) (filter f os))) [
  | true ↦ λ e. ((h.0, e), filter_all P f os h.1)
  | false ↦ λ e. filter_all P f os h.1
]) refl

pub in_filter : (f : Obj → Bool) (o : Obj) (os : List Obj) → f o ≡ true → In o os → In o (filter f os)
unfolding filter
in_filter f o [] e m = absurd m
in_filter f o (x ∷ xs) e (inl q) = rw (ap f (sym q) ∙ e) (inl q)
in_filter f o (x ∷ xs) e (inr m) = elim (f x) as (λ b. In o (cond b (x ∷ filter f xs) (filter f xs))) [
  | true ↦ inr (in_filter f o xs e m)
  | false ↦ in_filter f o xs e m
]

-- volumes
pub volume_append : (xs ys : List Obj) → volume (xs ++ ys) ≡ volume xs + volume ys
unfolding volume
volume_append [] ys = omega arith
volume_append (x ∷ xs) ys = omega (arith, volume_append xs ys)

pub volume_of_append : (c : ℕ) (xs ys : List Obj) → volume_of c (xs ++ ys) ≡ volume_of c xs + volume_of c ys
unfolding volume_of
volume_of_append c [] ys = omega arith
volume_of_append c (x ∷ xs) ys = omega (arith, volume_of_append c xs ys)

-- bytes copied into a place as long as they are fill it
pub filled : (page place out : List ℕ) → length page ≡ length place → out ≡ take (length page) page ++ drop (length page) place → out ≡ page
filled page place out e h = h ∙ rw (take-length page, e, drop-length place) (append-nil page)

-- a list that has k elements for each of another
pub each_long : {A B : Type 0} (f : List A → List B) (k : ℕ) → length (f []) ≡ 0
    → ((x : A) (xs : List A) → length (f (x ∷ xs)) ≡ k + length (f xs))
    → (xs : List A) → length (f xs) ≡ k * length xs
each_long f k none one [] = none ∙ sym (mul-zero k)
each_long f k none one (x ∷ xs) = one x xs ∙ ap (λ n. k + n) (each_long f k none one xs) ∙ rw (mul-suc k (length xs)) (omega arith)
