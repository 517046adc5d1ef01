-- What is picked from the columns by kind: it is what the rules filter out of the listed objects, and its volumes are those of the keys.
use mathlib.Core.Path.{◌≡◌, refl, sym, ap, ◌∙◌}
use mathlib.Core.Bool.{Bool, true, false, cond}
use mathlib.Core.List.{List, [], ◌∷◌, ◌++◌}
use Prim.Native.Nat.{ℕ, zero, suc, ◌+◌, ◌-◌, ◌≤◌, ◌<◌}
use native.Mathlib.Omega.{arith}
use native.Mathlib.Nat.{zero-add, add-zero, suc-add}
use lib.Dec.{eqb}
use lib.ListN.{get_or}
use borrow.Author.Tests.{eq-eqb, ne_eqb, eqb-true, eqb-false}
use Rattle.rules.specs.House.{classes}
use Rattle.rules.specs.Classes.{Obj, class_of, volume, volume_of, filter}
use Rattle.rules.specs.Flush.{longest_in}
use Rattle.rules.specs.Columns.{object_at, listed, picked}
use Rattle.rules.proofs.Lists.{All, cond_append}
use Rattle.rules.proofs.Runs.{listed_run, run_add}
use Rattle.layout.specs.Layout.{slot_of, key_volume, longest_by}
use Rattle.rules.proofs.ClassLaws.{class_few}

-- one more to a list, or not
abbrev keep : Bool → Obj → List Obj → List Obj
keep t o os = cond t (o ∷ os) os

-- what goes on where it was left gives the old objects, then the new one
in_two : (f : ℕ → ℕ → List Obj) → ((i m n : ℕ) → f i (m + n) ≡ f i m ++ f (i + m) n) → (old n : ℕ) → old ≤ n
    → f 0 old ++ f old (n - old) ≡ f 0 n
in_two f goes old n l =
    let e : old + (n - old) ≡ n = omega arith in
    sym (ap (f 0) (sym e) ∙ goes 0 old (n - old) ∙ rw (zero-add old))

module _ (names places lens : List ℕ) where
  -- what holds of the object of each index holds of all
  pub listed_all : (P : Obj → Type 0) (m i : ℕ) → ((j : ℕ) → i ≤ j → j < i + m → P (object_at names places lens j))
      → All P (listed names places lens i m)
  unfolding listed
  listed_all P zero i h = tt
  listed_all P (suc m) i h = (h i (omega arith) (omega arith), listed_all P m (suc i) (λ j a b. h j (omega arith) (omega arith)))

  listed_append : (i m n : ℕ) → listed names places lens i (m + n) ≡ listed names places lens i m ++ listed names places lens (i + m) n
  listed_append i m n =
      rw (listed_run names places lens (m + n) i, listed_run names places lens m i, listed_run names places lens n (i + m))
      (run_add (object_at names places lens) m n i)

  -- the old objects and the new one are all objects
  pub listed_parts : (old n : ℕ) → old ≤ n → listed names places lens 0 old ++ listed names places lens old (n - old) ≡ listed names places lens 0 n
  listed_parts = in_two (listed names places lens) listed_append

  module _ (kinds : List ℕ) (k : ℕ) where
    picked_append : (i m n : ℕ)
        → picked kinds k names places lens i (m + n) ≡ picked kinds k names places lens i m ++ picked kinds k names places lens (i + m) n
    unfolding picked
    picked_append i zero n = rw (zero-add n, add-zero i)
    picked_append i (suc m) n =
        let e : i + suc m ≡ suc i + m = omega arith in
        rw (suc-add m n, e, picked_append (suc i) m n)
        (cond_append (eqb (get_or kinds i 0) k) (object_at names places lens i) (picked kinds k names places lens (suc i) m)
        (picked kinds k names places lens (suc i + m) n))

    pub picked_parts : (old n : ℕ) → old ≤ n
        → picked kinds k names places lens 0 old ++ picked kinds k names places lens old (n - old) ≡ picked kinds k names places lens 0 n
    picked_parts = in_two (picked kinds k names places lens) picked_append

    -- a test that says whether an object is of the kind picks it
    pub filter_picked : (f : Obj → Bool) (m i : ℕ) → ((j : ℕ) → i ≤ j → j < i + m → f (object_at names places lens j) ≡ eqb (get_or kinds j 0) k)
        → filter f (listed names places lens i m) ≡ picked kinds k names places lens i m
    unfolding filter listed picked
    filter_picked f zero i h = refl
    filter_picked f (suc m) i h =
        rw (h i (omega arith) (omega arith), filter_picked f m (suc i) (λ j a b. h j (omega arith) (omega arith)))

    -- where all are of the kind, all are picked
    pub picked_all : (m i : ℕ) → ((j : ℕ) → i ≤ j → j < i + m → get_or kinds j 0 ≡ k)
        → picked kinds k names places lens i m ≡ listed names places lens i m
    unfolding listed picked
    picked_all zero i h = refl
    picked_all (suc m) i h =
        rw (eq-eqb (get_or kinds i 0) k (h i (omega arith) (omega arith)), picked_all m (suc i) (λ j a b. h j (omega arith) (omega arith)))

    -- and where none is, none
    pub picked_none : (m i : ℕ) → ((j : ℕ) → i ≤ j → j < i + m → get_or kinds j 0 ≡ k → ⊥) → picked kinds k names places lens i m ≡ []
    unfolding picked
    picked_none zero i h = refl
    picked_none (suc m) i h =
        rw (ne_eqb (get_or kinds i 0) k (h i (omega arith) (omega arith))) (picked_none m (suc i) (λ j a b. h j (omega arith) (omega arith)))

    -- the volume of a kind
    pub kind_volume : (m i : ℕ) → key_volume kinds lens k i m ≡ volume (picked kinds k names places lens i m)
    unfolding key_volume picked volume
    kind_volume zero i = refl
    kind_volume (suc m) i =
        elim (eqb (get_or kinds i 0) k) as
        (λ t. cond t (get_or lens i 0) 0 + key_volume kinds lens k (suc i) m ≡ volume
        (keep t (object_at names places lens i) (picked kinds k names places lens (suc i) m))) [
          | true ↦ omega (arith, kind_volume m (suc i))
          | false ↦ omega (arith, kind_volume m (suc i))
        ]

  -- the volume of a class
  pub class_volume : (cs : List ℕ) (c m i : ℕ) → ((j : ℕ) → i ≤ j → j < i + m → get_or cs j 0 ≡ class_of (get_or lens j 0))
      → key_volume cs lens c i m ≡ volume_of c (listed names places lens i m)
  unfolding key_volume listed volume_of
  class_volume cs c zero i h = refl
  class_volume cs c (suc m) i h =
      rw (h i (omega arith) (omega arith), class_volume cs c m (suc i) (λ j a b. h j (omega arith) (omega arith)))

  -- the longest object
  pub longest_listed : (m i : ℕ) → longest_by lens i m ≡ longest_in (listed names places lens i m)
  unfolding longest_by listed longest_in
  longest_listed zero i = refl
  longest_listed (suc m) i = rw (longest_listed m (suc i))

-- two slots of one kind are the same where their classes are
pub slot_same : (k c d : ℕ) → eqb (slot_of k c) (slot_of k d) ≡ eqb c d
slot_same k c d = (elim (eqb c d) as (λ t. eqb c d ≡ t → eqb (slot_of k c) (slot_of k d) ≡ t) [
  | true ↦ λ e. eq-eqb (slot_of k c) (slot_of k d) (omega (arith, eqb-true c d e))
  | false ↦ λ e. ne_eqb (slot_of k c) (slot_of k d) (λ q. eqb-false c d e (omega arith))
]) refl

-- two slots of different kinds differ
pub slot_other : (k l c d : ℕ) → c ≤ suc classes → d ≤ suc classes → (k ≡ l → ⊥) → eqb (slot_of k c) (slot_of l d) ≡ false
slot_other k l c d p q n = ne_eqb (slot_of k c) (slot_of l d) (λ e. n (omega arith))

-- the volume of a class of a kind
pub slot_volume : (names places lens kinds slots : List ℕ) (k c : ℕ) → c ≤ suc classes → (m i : ℕ)
    → ((j : ℕ) → i ≤ j → j < i + m → get_or slots j 0 ≡ slot_of (get_or kinds j 0) (class_of (get_or lens j 0)))
    → key_volume slots lens (slot_of k c) i m ≡ volume_of c (picked kinds k names places lens i m)
unfolding key_volume picked volume_of
slot_volume names places lens kinds slots k c l zero i h = refl
slot_volume names places lens kinds slots k c l (suc m) i h =
    let rest = slot_volume names places lens kinds slots k c l m (suc i) (λ j a b. h j (omega arith) (omega arith)) in
    let class = class_of (get_or lens i 0) in
    rw (h i (omega arith) (omega arith), rest) ((elim (eqb (get_or kinds i 0) k) as (λ t. eqb (get_or kinds i 0) k ≡ t
    → cond (eqb (slot_of (get_or kinds i 0) class) (slot_of k c)) (get_or lens i 0) 0 + volume_of c (picked kinds k names places lens (suc i) m)
    ≡ volume_of c (keep t (object_at names places lens i) (picked kinds k names places lens (suc i) m))) [
      | true ↦ λ e. rw (eqb-true (get_or kinds i 0) k e, slot_same k class c)
      | false ↦ λ e. rw (slot_other (get_or kinds i 0) k class c (class_few (get_or lens i 0)) l (eqb-false (get_or kinds i 0) k e)) (omega arith)
    ]) refl)
