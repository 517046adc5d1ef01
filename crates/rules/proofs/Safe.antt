-- The safety of a plan, and what every phase of it keeps.
-- A move may start only from where its object lies, and its target must miss every place held now and every place held since the last wait. While a
-- phase runs, the objects held are just those it has still to move and the rest: since no two have one name, a move takes one object from the first
-- to the second and leaves all others alone.
use mathlib.Core.Path.{◌≡◌, refl, sym, ap, ◌∙◌, subst}
use mathlib.Core.Logic.{◌⊎◌, inl, inr}
use mathlib.Core.Bool.{Bool, true, false, cond}
use mathlib.Core.List.{List, [], ◌∷◌, ◌++◌}
use Prim.Native.Nat.{ℕ, ◌≤◌, ◌<◌}
use native.Mathlib.Omega.{arith}
use lib.Dec.{eqb}
use borrow.Author.Tests.{eqb-true, eqb-false, eq-eqb, ne_eqb}
use Rattle.rules.specs.Classes.{Obj, end_of, placed}
use Rattle.rules.specs.Flush.{Act, Move, move, wait, moved}
use Rattle.rules.proofs.Lists.{All, In}
use Rattle.rules.proofs.Facts.{Distinct}
use Rattle.rules.proofs.Names.{kinds, unique, distinct_moved}

-- no byte of o lies from lo up to hi
abbrev pub Misses : ℕ → ℕ → Obj → Type 0
Misses lo hi o = (x : ℕ) → o.at ≤ x → x < end_of o → lo ≤ x → x < hi → ⊥

-- no byte is in both
abbrev pub Apart : Obj → Obj → Type 0
Apart p o = Misses p.at (end_of p) o

-- the object of a move, at its target
abbrev pub target : Move → Obj
target m = placed m.object m.to

-- THE RULE: each move starts where its object lies, and its target misses every place held now and every place held since the last wait; Post holds at the end
abbrev pub Safe : List Act → (List Obj → List Obj → Type 0) → List Obj → List Obj → Type 0
Safe [] Post now seen = Post now seen
Safe (move m ∷ acts) Post now seen = In m.object now × All (Apart (target m)) now × All (Apart (target m)) seen
    × Safe acts Post (moved m now) (now ++ seen)
Safe (wait ∷ acts) Post now seen = Safe acts Post now now

-- one part of a plan after the other
pub safe_append : (Post : List Obj → List Obj → Type 0) (xs ys : List Act) (now seen : List Obj) → Safe xs (Safe ys Post) now seen
    → Safe (xs ++ ys) Post now seen
safe_append Post [] ys now seen s = s
safe_append Post (move m ∷ xs) ys now seen s = (s.0, s.1, s.2, safe_append Post xs ys (moved m now) (now ++ seen) s.3)
safe_append Post (wait ∷ xs) ys now seen s = safe_append Post xs ys now now s

module _ {P Q : List Obj → List Obj → Type 0} where
  -- a plan that is safe with P at its end is safe with what P gives
  pub safe_weaken : ((now seen : List Obj) → P now seen → Q now seen) → (acts : List Act) (now seen : List Obj) → Safe acts P now seen
      → Safe acts Q now seen
  safe_weaken f [] now seen s = f now seen s
  safe_weaken f (move m ∷ acts) now seen s = (s.0, s.1, s.2, safe_weaken f acts (moved m now) (now ++ seen) s.3)
  safe_weaken f (wait ∷ acts) now seen s = safe_weaken f acts now now s

-- of one name and length
abbrev pub Twin : Obj → Obj → Type 0
Twin h f = (f.name ≡ h.name) × (f.len ≡ h.len)

-- the same objects at other places
abbrev pub Twins : List Obj → List Obj → Type 0
Twins [] [] = Unit {0}
Twins [] (f ∷ fs) = ⊥
Twins (h ∷ os) [] = ⊥
Twins (h ∷ os) (f ∷ fs) = Twin h f × Twins os fs

-- two lists of the same names and lengths
pub twins_of : (xs ys : List Obj) → kinds xs ≡ kinds ys → Twins xs ys
twins_of [] [] e = tt
twins_of [] (y ∷ ys) e = let z : ◌≡◌ {A = ℕ} 0 1 = cc in absurd (omega arith)
twins_of (x ∷ xs) [] e = let z : ◌≡◌ {A = ℕ} 0 1 = cc in absurd (omega arith)
twins_of (x ∷ xs) (y ∷ ys) e =
    let k : placed x 0 ≡ placed y 0 = cc in
    let t : kinds xs ≡ kinds ys = cc in
    ((ap (λ o. o.name) (sym k), ap (λ o. o.len) (sym k)), twins_of xs ys t)

-- h goes to the place of f
abbrev pub onto : Obj → Obj → Move
onto h f = record { object = h; to = f.at }

-- an object of another name stays
pub stays : (m : Move) (o : Obj) (os : List Obj) → (o.name ≡ m.object.name → ⊥) → In o os → In o (moved m os)
unfolding moved
stays m o [] d k = absurd k
stays m o (x ∷ xs) d (inl e) = inl (rw (ne_eqb x.name m.object.name (λ q. d (ap (λ (y : Obj). y.name) e ∙ q))) e)
stays m o (x ∷ xs) d (inr k) = inr (stays m o xs d k)

-- the object moved is at its target
pub arrives : (m : Move) (os : List Obj) → In m.object os → In (target m) (moved m os)
unfolding moved
arrives m [] k = absurd k
arrives m (x ∷ xs) (inl e) =
    inl (rw (eq-eqb x.name m.object.name (ap (λ (y : Obj). y.name) (sym e))) (ap (λ (y : Obj). placed y m.to) e))
arrives m (x ∷ xs) (inr k) = inr (arrives m xs k)

-- what an object held after a move was before it
pub came : (m : Move) (o : Obj) (os : List Obj) → In o (moved m os)
    → (x : Obj) × In x os × (((x.name ≡ m.object.name) × (o ≡ placed x m.to)) ⊎ ((x.name ≡ m.object.name → ⊥) × (o ≡ x)))
unfolding moved
came m o [] k = absurd k
came m o (x ∷ xs) (inl e) = (x, inl refl, from (eqb x.name m.object.name) refl e)
  where
    from : (b : Bool) → eqb x.name m.object.name ≡ b → o ≡ cond b (placed x m.to) x
        → ((x.name ≡ m.object.name) × (o ≡ placed x m.to)) ⊎ ((x.name ≡ m.object.name → ⊥) × (o ≡ x))
    from true q e = inl (eqb-true _ _ q, e)
    from false q e = inr (eqb-false _ _ q, e)
came m o (x ∷ xs) (inr k) = let r = came m o xs k in (r.0, inr r.1, r.2)

-- the objects held now divide into those still to be moved and the rest
pub record Divided (todo rest now : List Obj) : Type 0 where
  pub differ : Distinct now
  pub there : (o : Obj) → In o todo ⊎ In o rest → In o now
  pub sorted : (o : Obj) → In o now → In o todo ⊎ In o rest

-- the first of those to be moved is held
pub first : {h : Obj} {os rest now : List Obj} → Divided (h ∷ os) rest now → In h now
first {h} s = s.there h (inl (inl refl))

-- a move takes the first of those to be moved to the rest
pub shift : {h f : Obj} {os rest now : List Obj} → Divided (h ∷ os) rest now → Twin h f → ((x : Obj) → In x os ⊎ In x rest → x ≡ h → ⊥)
    → Divided os (f ∷ rest) (moved (onto h f) now)
shift {h} {f} {os} {rest} {now} s w other = record {
  differ = distinct_moved (onto h f) now s.differ;
  there = there;
  sorted = λ o k. let r = came (onto h f) o now k in sorted o r.0 r.1 r.2;
}
  where
    lands : placed h f.at ≡ f
    lands = λ i. record { name = sym w.0 i; at = f.at; len = sym w.1 i }

    kept : (o : Obj) → In o os ⊎ In o rest → In o now → In o (moved (onto h f) now)
    kept o m k = stays (onto h f) o now (λ e. other o m (unique now s.differ o h k (first s) e)) k

    there : (o : Obj) → In o os ⊎ In o (f ∷ rest) → In o (moved (onto h f) now)
    there o (inl m) = kept o (inl m) (s.there o (inl (inr m)))
    there o (inr (inl e)) = rw (e ∙ sym lands) (arrives (onto h f) now (first s))
    there o (inr (inr m)) = kept o (inr m) (s.there o (inr m))

    old : (o : Obj) → (o.name ≡ h.name → ⊥) → In o (h ∷ os) ⊎ In o rest → In o os ⊎ In o (f ∷ rest)
    old o d (inl (inl e)) = absurd (d (ap (λ (y : Obj). y.name) e))
    old o d (inl (inr m)) = inl m
    old o d (inr m) = inr (inr m)

    sorted : (o x : Obj) → In x now → ((x.name ≡ h.name) × (o ≡ placed x f.at)) ⊎ ((x.name ≡ h.name → ⊥) × (o ≡ x))
        → In o os ⊎ In o (f ∷ rest)
    sorted o x k (inl p) = inr (inl (p.1 ∙ ap (λ (y : Obj). placed y f.at) (unique now s.differ x h k (first s) p.0) ∙ lands))
    sorted o x k (inr p) = subst (λ y. In y os ⊎ In y (f ∷ rest)) (sym p.1) (old x p.0 (s.sorted x k))

-- the same objects, told apart in another way
pub regroup : {todo rest todo' rest' now : List Obj} → Divided todo rest now → ((o : Obj) → In o todo' ⊎ In o rest' → In o todo ⊎ In o rest)
    → ((o : Obj) → In o todo ⊎ In o rest → In o todo' ⊎ In o rest') → Divided todo' rest' now
regroup s f g = record { differ = s.differ; there = λ o m. s.there o (f o m); sorted = λ o k. g o (s.sorted o k) }
