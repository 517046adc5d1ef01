-- Columns: one stored to at a class is the rules' column with that class put; and columns with one object more, behind the others.
use mathlib.Core.Path.{◌≡◌, refl, sym, ap, ◌∙◌}
use mathlib.Core.Logic.{inl, inr}
use mathlib.Core.List.{List, [], ◌∷◌, ◌++◌}
use Prim.Native.Nat.{ℕ, zero, suc, ◌+◌, ◌-◌, ◌≤◌}
use native.Mathlib.Omega.{arith}
use lib.Dec.{eqb}
use mathlib.Core.Bool.{cond}
use lib.ListN.{length, get_or, set, take, drop, length-set}
use lib.Seq.{ext_get_or, get_or-set_same, get_or-set_other, take_at, drop_at}
use Rattle.rules.specs.House.{share, classes}
use Rattle.rules.specs.Classes.{Obj}
use Rattle.rules.specs.Regions.{col, table, start_of, buffer_start}
use Rattle.rules.specs.Placing.{put}
use Rattle.rules.proofs.Puts.{put_here, put_off, same_or_not}
use Rattle.layout.proofs.Fills.{table_length}
use Rattle.flush_laws.proofs.Picks.{listed_parts}
use Rattle.layout.proofs.Spans.{starts_at}
use Rattle.rules.proofs.Runs.{listed_length}
use Rattle.edits.specs.declared.Columns.{Columns}
use Rattle.edits.specs.Edits.{object, objects, between}
use Rattle.state.proofs.Cases.{one_listed}

-- a store to a column is a put
pub set_put : (xs : List ℕ) (j v : ℕ) → length xs ≡ suc classes → j ≤ classes → set xs j v ≡ put j v xs
set_put xs j v n l =
    ext_get_or 0 (set xs j v) (put j v xs) (length-set xs j v ∙ n ∙ sym (table_length (λ i. cond (eqb i j) v (col xs i)) 0 (suc classes)))
    (λ i h. elim (same_or_not i j) [
      | inl e ↦ ap (λ (k : ℕ). get_or (set xs j v) k 0) e ∙ get_or-set_same xs j v 0 (omega arith) ∙ sym (ap (col (put j v xs)) e ∙ put_here j v xs l)
      | inr d ↦ get_or-set_other xs j i v 0 d ∙ sym (put_off j v xs i (omega (arith, length-set xs j v)) d)
    ])

-- what is stored above class 0 does not touch class 0
first_apart : (xs : List ℕ) (c v : ℕ) → 1 ≤ c → set (set xs c v) 0 0 ≡ set (set xs 0 0) c v
first_apart xs zero v l = absurd (omega arith)
first_apart [] (suc c) v l = refl
first_apart (x ∷ xs) (suc c) v l = refl

-- so a payload is put beside the size of class 0, which counts for nothing
pub size_put : (xs : List ℕ) (c v : ℕ) → length xs ≡ suc classes → 1 ≤ c → c ≤ classes → set (set xs c v) 0 0 ≡ put c v (set xs 0 0)
size_put xs c v n l m = first_apart xs c v l ∙ set_put (set xs 0 0) c v (length-set xs 0 0 ∙ n) m

-- the start of a buffer, from the starts of the regions
pub buffer_at : (sizes from starts : List ℕ) (j : ℕ) → from ≡ sizes → starts ≡ table (start_of share from) 0 (2 + classes) → j ≤ classes
    → get_or starts j 0 + get_or from j 0 ≡ buffer_start share sizes j
buffer_at sizes from starts j e f l = omega (arith, starts_at sizes starts (rw e at f) j (omega arith), ap (λ (xs : List ℕ). get_or xs j 0) e)

-- columns with one object more behind os
pub record Appended (cs : Columns) (n : ℕ) (os : List Obj) (o : Obj) : Type 0 where
  pub before : objects cs n ≡ os
  pub last : between cs n (n + 1) ≡ o ∷ []

pub appended : (cs : Columns) (n : ℕ) (os : List Obj) (o : Obj) → length os ≡ n → objects cs (n + 1) ≡ os ++ (o ∷ []) → Appended cs n os o
appended cs n os o l e =
    let all = listed_parts cs.names cs.places cs.lens n (n + 1) (omega arith) ∙ e in
    let many = listed_length cs.names cs.places cs.lens 0 n in
    record {
      before = sym (take_at (objects cs n) (between cs n (n + 1)) n many) ∙ ap (take n) all ∙ take_at os (o ∷ []) n l;
      last = sym (drop_at (objects cs n) (between cs n (n + 1)) n many) ∙ ap (drop n) all ∙ drop_at os (o ∷ []) n l;
    }

-- the object of the last index
pub last_object_lem : (cs : Columns) (n : ℕ) (o : Obj) → between cs n (n + 1) ≡ o ∷ []
    → object (get_or cs.names n 0) (get_or cs.places n 0) (get_or cs.lens n 0) ≡ o
last_object_lem cs n o e =
    let d : n + 1 - 1 ≡ n = omega arith in
    let one = rw d at (one_listed cs.names cs.places cs.lens (n + 1) (omega arith)) in
    let both = sym one ∙ e in
    cc
