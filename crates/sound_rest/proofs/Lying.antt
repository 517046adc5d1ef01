-- Where objects lie. Names do not matter, so the rules for all objects are one test along two columns; an object is tested by the starts of
-- the regions as a column. What the loop over the objects keeps is what is left of that test.
use mathlib.Core.Path.{◌≡◌, refl, ap, ◌∙◌}
use mathlib.Core.Bool.{Bool, true, false, ◌&&◌, ◌||◌}
use mathlib.Core.Logic.{◌⊎◌, inl, inr}
use mathlib.Core.List.{List, [], ◌∷◌}
use Prim.Native.Nat.{ℕ, zero, suc, ◌+◌, ◌≤◌}
use native.Mathlib.Nat.{zero-add}
use native.Mathlib.Numerals.{add-one}
use native.Mathlib.Omega.{arith}
use borrow.Author.Tests.{le-leb}
use lib.Dec.{leb}
use lib.ListN.{length, drop}
use Rattle.std.specs.List.{list_any, range_with_len}
use Rattle.rules.specs.House.{classes}
use Rattle.rules.specs.Classes.{Obj, class_of}
use Rattle.rules.specs.Regions.{Regions, col, table, start_of}
use Rattle.rules.specs.Columns.{listed}
use Rattle.rules.specs.Flush.{within, in_payload}
use Rattle.rules.specs.Sound.{each, apart_from, in_buffer, in_some_buffer, lies_well}
use Rattle.rules.proofs.Tables.{table_at}
use Rattle.sound_limits.proofs.Listed.{object_at}
use Rattle.sound_rest.specs.Rest.{unnamed}

-- the start of region i in the column of starts
pub base_at : (q : ℕ) (sizes : List ℕ) {bases : List ℕ} (i : ℕ) → bases ≡ table (start_of q sizes) 0 (2 + classes) → i ≤ suc classes
    → col bases i ≡ start_of q sizes i
base_at q sizes i e l = rw e (table_at (start_of q sizes) 0 (2 + classes) i (omega arith) ∙ ap (start_of q sizes) (zero-add i))

-- an object of a class that buffer j takes lies in it by its place alone
pub buffer_in : (q : ℕ) (t : Regions) (at len j : ℕ) {bases : List ℕ} → col t.lowests j ≤ class_of len
    → bases ≡ table (start_of q t.sizes) 0 (2 + classes) → class_of len ≤ j → j ≤ classes
    → within (col bases j + col t.sizes j) (col t.useds j) (unnamed at len) ≡ in_buffer q t (unnamed at len) j
buffer_in q t at len j a e b l = rw (le-leb (col t.lowests j) (class_of len) a, le-leb (class_of len) j b, base_at q t.sizes j e (omega arith))

-- the buffers of a range
pub some_range : (q : ℕ) (t : Regions) (o : Obj) (j n : ℕ) → list_any (in_buffer q t o) (range_with_len j n) ≡ in_some_buffer q t o j n
unfolding in_some_buffer
some_range q t o j zero = refl
some_range q t o j (suc n) = rw (add-one j) (ap (λ (b : Bool). in_buffer q t o j || b) (some_range q t o (suc j) n))

-- where an object lies has nothing to do with its name
some_unnamed : (q : ℕ) (t : Regions) (o : Obj) (j n : ℕ) → in_some_buffer q t o j n ≡ in_some_buffer q t (unnamed o.at o.len) j n
unfolding in_some_buffer
some_unnamed q t o j zero = refl
some_unnamed q t o j (suc n) = ap (λ (b : Bool). in_buffer q t o j || b) (some_unnamed q t o (suc j) n)

lies_unnamed : (q : ℕ) (t : Regions) (o : Obj) → lies_well q t o ≡ lies_well q t (unnamed o.at o.len)
lies_unnamed q t o = ap (λ (b : Bool). in_payload q t o || b) (some_unnamed q t o 1 classes)

-- the objects that two columns list lie where they may, the first from `edge` on, and each from the end of the one before
abbrev pub lie_from : ℕ → Regions → ℕ → List ℕ → List ℕ → Bool
lie_from q t edge [] lens = true
lie_from q t edge (at ∷ places) [] = true
lie_from q t edge (at ∷ places) (len ∷ lens) = (leb edge at && lies_well q t (unnamed at len)) && lie_from q t (at + len) places lens

-- the objects behind the first
listed_later : (names places lens : List ℕ) (at len i n : ℕ) → listed names (at ∷ places) (len ∷ lens) (suc i) n ≡ listed (drop 1 names) places lens i n
unfolding listed
listed_later names places lens at len i zero = refl
listed_later [] places lens at len i (suc n) = ap (λ (os : List Obj). object_at [] places lens i ∷ os) (listed_later [] places lens at len (suc i) n)
listed_later (name ∷ names) places lens at len i (suc n) =
    ap (λ (os : List Obj). object_at names places lens i ∷ os) (listed_later (name ∷ names) places lens at len (suc i) n)

pub lie_listed : (q : ℕ) (t : Regions) (edge : ℕ) (names places lens : List ℕ) → length places ≡ length lens
    → lie_from q t edge places lens
    ≡ each (lies_well q t) (listed names places lens 0 (length lens)) && apart_from edge (listed names places lens 0 (length lens))
unfolding each apart_from listed
lie_listed q t edge names [] [] e = refl
lie_listed q t edge names [] (len ∷ lens) e = absurd (omega arith)
lie_listed q t edge names (at ∷ places) [] e = absurd (omega arith)
lie_listed q t edge names (at ∷ places) (len ∷ lens) e = rw (
  listed_later names places lens at len 0 (length lens),
  lies_unnamed q t (object_at names (at ∷ places) (len ∷ lens) 0),
  lie_listed q t (at + len) (drop 1 names) places lens (omega arith),
) (turned (leb edge at) (lies_well q t (unnamed at len)) (each (lies_well q t) (listed (drop 1 names) places lens 0 (length lens)))
    (apart_from (at + len) (listed (drop 1 names) places lens 0 (length lens))))
  where
    turned : (a b c d : Bool) → ((a && b) && (c && d)) ≡ ((b && c) && (a && d))
    turned true true c d = refl
    turned true false c d = refl
    turned false true true d = refl
    turned false true false d = refl
    turned false false c d = refl

-- no object is left
pub lie_none : (q : ℕ) (t : Regions) (edge : ℕ) (places lens : List ℕ) → (length places ≡ 0) ⊎ (length lens ≡ 0) → true ≡ lie_from q t edge places lens
lie_none q t edge [] lens e = refl
lie_none q t edge (at ∷ places) [] e = refl
lie_none q t edge (at ∷ places) (len ∷ lens) (inl e) = absurd (omega arith)
lie_none q t edge (at ∷ places) (len ∷ lens) (inr e) = absurd (omega arith)
