-- Objects by rising name: where names differ they rise in the sorted list. A map's test of entries as facts, and the size of the map of columns.
use Prim.Native.Nat.{ℕ, ◌≤◌, ◌<◌}
use mathlib.Core.Path.{◌≡◌, refl, ap, ◌∙◌}
use mathlib.Core.Bool.{true, false, cond, ◌&&◌}
use mathlib.Core.List.{List, [], ◌∷◌}
use native.Mathlib.Omega.{arith}
use borrow.Author.Tests.{ltb-true, lt-ltb, leb-true, leb-false, le-leb}
use lib.Dec.{ltb, leb}
use lib.ListN.{length}
use Rattle.rules.specs.House.{longest}
use Rattle.rules.specs.Classes.{Obj, end_of, insert_by_name, by_name}
use Rattle.rules.specs.Columns.{listed}
use Rattle.rules.specs.Calls.{map_size}
use Rattle.rules.proofs.Lists.{All, and_true}
use Rattle.rules.proofs.Facts.{Distinct}
use Rattle.rules.proofs.Insertion.{name_all, name_length}
use Rattle.rules.proofs.Runs.{listed_length}
use Rattle.mapform.specs.Maps.{map_of}
use Rattle.mapform.specs.Reading.{entry_fits, entries_fit}
use Rattle.mapform.proofs.Puts.{map_length}

-- names rise from above b
abbrev pub Rising : ℕ → List Obj → Type 0
Rising b [] = Unit {0}
Rising b (o ∷ os) = (b < o.name) × Rising o.name os

insert_rising : (b : ℕ) (o : Obj) (xs : List Obj) → b < o.name → All (λ (x : Obj). x.name ≡ o.name → ⊥) xs → Rising b xs
    → Rising b (insert_by_name o xs)
unfolding insert_by_name
insert_rising b o [] h d r = (h, tt)
insert_rising b o (x ∷ xs) h d r =
    (elim (leb o.name x.name) as (λ t. leb o.name x.name ≡ t → Rising b (cond t (o ∷ x ∷ xs) (x ∷ insert_by_name o xs))) [
      | true ↦ λ e. (h, (below o.name x.name (leb-true o.name x.name e) d.0, r.1))
      | false ↦ λ e. (r.0, insert_rising x.name o xs (leb-false o.name x.name e) d.1 r.1)
    ])
    refl
  where
    below : (m n : ℕ) → m ≤ n → (n ≡ m → ⊥) → m < n
    below m n l ne = omega arith

-- where names differ they rise
pub name_rising : (os : List Obj) → All (λ (x : Obj). 0 < x.name) os → Distinct os → Rising 0 (by_name os)
unfolding by_name
name_rising [] h d = tt
name_rising (o ∷ os) h d = insert_rising 0 o (by_name os) h.0 (name_all (λ (x : Obj). x.name ≡ o.name → ⊥) os d.0)
    (name_rising os h.1 d.1)

insert_first : (o : Obj) (xs : List Obj) → Rising o.name xs → insert_by_name o xs ≡ o ∷ xs
unfolding insert_by_name
insert_first o [] r = refl
insert_first o (x ∷ xs) r = rw (le-leb o.name x.name (omega (arith, r.0)))

-- a list whose names rise stays as it is
pub name_same : (b : ℕ) (os : List Obj) → Rising b os → by_name os ≡ os
unfolding by_name
name_same b [] r = refl
name_same b (o ∷ os) r = ap (insert_by_name o) (name_same o.name os r.1) ∙ insert_first o os r.1

-- an object within its limits and within a
pub record Within (a : ℕ) (o : Obj) : Type 0 where
  pub some : 0 < o.len
  pub length_fits : o.len ≤ longest
  pub ends : end_of o ≤ a

-- the test of entries as facts
pub entries_fact : (a b : ℕ) (os : List Obj) → entries_fit a b os ≡ true → Rising b os × All (Within a) os
unfolding entries_fit
entries_fact a b [] e = (tt, tt)
entries_fact a b (o ∷ os) e =
    let p = and_true (entry_fits a b o) (entries_fit a o.name os) e in
    let q = and_true (ltb b o.name) (ltb 0 o.len && (leb o.len longest && leb (end_of o) a)) p.0 in
    let r = and_true (ltb 0 o.len) (leb o.len longest && leb (end_of o) a) q.1 in
    let s = and_true (leb o.len longest) (leb (end_of o) a) r.1 in
    let rest = entries_fact a o.name os p.1 in (
      (ltb-true b o.name q.0, rest.0),
      (record { some = ltb-true 0 o.len r.0; length_fits = leb-true o.len longest s.0; ends = leb-true (end_of o) a s.1 }, rest.1),
    )

pub entries_test : (a b : ℕ) (os : List Obj) → Rising b os → All (Within a) os → entries_fit a b os ≡ true
unfolding entries_fit
entries_test a b [] r w = refl
entries_test a b (o ∷ os) r w =
    rw (lt-ltb b o.name r.0, lt-ltb 0 o.len w.0.some, le-leb o.len longest w.0.length_fits, le-leb (end_of o) a w.0.ends)
    (entries_test a o.name os r.1 w.1)

-- the size of the map of columns
pub columns_size : (ns ps ls : List ℕ) (n : ℕ) → length (map_of (listed ns ps ls 0 n)) ≡ map_size n
columns_size ns ps ls n = map_length (by_name (listed ns ps ls 0 n)) ∙ ap map_size (name_length (listed ns ps ls 0 n) ∙ listed_length ns ps ls 0 n)
