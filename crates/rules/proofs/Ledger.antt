-- The ledger and the list. Each page of the ledger is that of an object in the list, whose place holds its bytes, and each object's name is in the ledger:
-- so the map of a list lies in the area, and a name is held where it is in the ledger.
use mathlib.Core.Path.{◌≡◌, refl, sym, ap, ◌∙◌}
use mathlib.Core.Logic.{◌⊎◌, inl, inr}
use mathlib.Core.Bool.{true, false, cond, ◌||◌}
use mathlib.Core.List.{List, [], ◌∷◌}
use Prim.Native.Nat.{ℕ}
use lib.ListN.{length}
use lib.Dec.{ltb, eqb}
use borrow.Author.Tests.{eqb-true, eqb-false, eq-eqb}
use Rattle.rules.specs.Classes.{Obj}
use Rattle.rules.specs.Calls.{named}
use Rattle.rules.specs.History.{Stored, Page, without, listed, bytes_under, with_bytes, objects_of, LiesIn, Every}
use Rattle.rules.proofs.Lists.{clash, or_true, or_right, All, In, in_all}
use Rattle.rules.proofs.Facts.{Distinct}
use Rattle.rules.proofs.Limits.{not_held}
use Rattle.rules.proofs.Names.{unique}
use Rattle.rules.proofs.StepWithin.{By}
use Rattle.rules.proofs.Cuts.{bytes_at}

-- what holds of the objects of a map holds of its pages
pub every_object : (P : Obj → Type 0) (ps : List Page) → All P (objects_of ps) → Every (λ p. P p.object) ps
every_object P [] h = tt
every_object P (p ∷ ps) h = (h.0, every_object P ps h.1)

pub objects_of_map : (l : List Stored) (os : List Obj) → objects_of (with_bytes l os) ≡ os
unfolding with_bytes
objects_of_map l [] = refl
objects_of_map l (o ∷ os) = ap (λ xs. o ∷ xs) (objects_of_map l os)

-- a page of the ledger is that of an object, and lies at its place
abbrev pub StoredIn : List ℕ → List Obj → Stored → Type 0
StoredIn area os p = (o : Obj) × In o os × (o.name ≡ p.name) × (bytes_at area o ≡ p.bytes)

-- what is left of the ledger has other names
pub every_without : (P : Stored → Type 0) (n : ℕ) (l : List Stored) → Every P l → Every (λ p. P p × (p.name ≡ n → ⊥)) (without n l)
unfolding without
every_without P n [] h = tt
every_without P n (p ∷ ps) h = elim (eqb p.name n) as
    (λ b. eqb p.name n ≡ b → Every (λ x. P x × (x.name ≡ n → ⊥)) (cond b (without n ps) (p ∷ without n ps))) [
      | true ↦ λ e. every_without P n ps h.1
      | false ↦ λ e. ((h.0, eqb-false p.name n e), every_without P n ps h.1)
    ] refl

pub listed_without : (n k : ℕ) (l : List Stored) → (k ≡ n → ⊥) → listed k l ≡ true → listed k (without n l) ≡ true
unfolding without listed
listed_without n k [] d h = h
listed_without n k (p ∷ ps) d h = elim (eqb p.name n) as (λ b. eqb p.name n ≡ b → listed k (cond b (without n ps) (p ∷ without n ps)) ≡ true) [
  | true ↦ λ e. elim (or_true (eqb p.name k) (listed k ps) h) [
    | inl q ↦ absurd (d (sym (eqb-true p.name k q) ∙ eqb-true p.name n e))
    | inr q ↦ listed_without n k ps d q
  ]
  | false ↦ λ e. elim (or_true (eqb p.name k) (listed k ps) h) [
    | inl q ↦ rw q
    | inr q ↦ or_right (eqb p.name k) (listed k (without n ps)) (listed_without n k ps d q)
  ]
] refl

-- a page more lists its own name, and those that were listed
pub listed_more : (p : Stored) (k : ℕ) (l : List Stored) → (p.name ≡ k) ⊎ (listed k l ≡ true) → listed k (p ∷ l) ≡ true
unfolding listed
listed_more p k l (inl e) = rw (eq-eqb p.name k e)
listed_more p k l (inr e) = or_right (eqb p.name k) (listed k l) e

-- the first page of a name that is listed
pub record Found (P : Stored → Type 0) (n : ℕ) (l : List Stored) : Type 0 where
  pub page : Stored
  pub called : page.name ≡ n
  pub passes : P page
  pub has : bytes_under n l ≡ page.bytes

pub find_listed : (P : Stored → Type 0) (n : ℕ) (l : List Stored) → Every P l → listed n l ≡ true → Found P n l
unfolding listed bytes_under
find_listed P n [] h e = absurd (clash e refl)
find_listed P n (p ∷ ps) h e = (elim (eqb p.name n) as (λ b. eqb p.name n ≡ b → (b || listed n ps) ≡ true → Found P n (p ∷ ps)) [
  | true ↦ λ q k. record { page = p; called = eqb-true p.name n q; passes = h.0; has = rw q }
  | false ↦ λ q k. let r = find_listed P n ps h.1 k in record { page = r.page; called = r.called; passes = r.passes; has = rw q r.has }
]) refl e

module _ (area : List ℕ) (os : List Obj) (l : List Stored) (differ : Distinct os) (stored : Every (StoredIn area os) l) where
  -- an object's place holds the bytes stored under its name
  pub own_bytes : (o : Obj) → In o os → listed o.name l ≡ true → bytes_at area o ≡ bytes_under o.name l
  own_bytes o m e =
      let f = find_listed (StoredIn area os) o.name l stored e in
      let x = f.passes in
      ap (bytes_at area) (sym (unique os differ x.0 o x.1 m (x.2 ∙ f.called))) ∙ x.3 ∙ sym f.has

  -- so the map of objects of the list lies in the area, where they end within it
  pub map_lies : All (By (length area)) os → (xs : List Obj) → All (λ o. In o os × (listed o.name l ≡ true)) xs
      → Every (LiesIn area) (with_bytes l xs)
  unfolding with_bytes
  map_lies within [] h = tt
  map_lies within (x ∷ xs) h = ((in_all (By (length area)) os within x h.0.0, own_bytes x h.0.0 h.0.1), map_lies within xs h.1)

-- an object's name is held
pub held_in : (o : Obj) (os : List Obj) → In o os → ltb 0 (length (named o.name os)) ≡ true
held_in o os m = elim (ltb 0 (length (named o.name os))) as (λ b. ltb 0 (length (named o.name os)) ≡ b → b ≡ true) [
  | true ↦ λ e. refl
  | false ↦ λ e. absurd (in_all (λ x. x.name ≡ o.name → ⊥) os (not_held o.name os e) o m refl)
] refl
