-- Columns filled one number at a time. The invariant says of each entry whether it is filled yet; where all are, the column is the table.
use mathlib.Core.Path.{◌≡◌, refl, sym, ap, subst, ◌∙◌}
use mathlib.Core.Logic.{inl, inr}
use mathlib.Core.Bool.{Bool, true, false, cond}
use mathlib.Core.List.{List}
use Prim.Native.Nat.{ℕ, zero, suc, ◌+◌, ◌≤◌, ◌<◌}
use native.Mathlib.Omega.{arith}
use native.Mathlib.Nat.{zero-add}
use denote.Param.Members.{Mut}
use Rattle.std.specs.Fn.{Called}
use Rattle.std.specs.Array.{IsFromFnResultFrom, IsFromFnResult}
use lib.Dec.{ltb}
use lib.ListN.{length, get_or, set, replicate, length-set, length-replicate, get_or-replicate}
use lib.Seq.{get_or-set_same, get_or-set_other, ext_get_or}
use borrow.Author.Tests.{lt-ltb, le-ltb}
use Rattle.rules.specs.Regions.{table}
use Rattle.rules.proofs.Tables.{table_at, trio}
use Rattle.layout.specs.Layout.{filled}

-- a table is as long as it says
pub table_length : (f : ℕ → ℕ) (i n : ℕ) → length (table f i n) ≡ n
unfolding table
table_length f i zero = refl
table_length f i (suc n) = ap suc (table_length f (suc i) n)

-- what is no more than x at each entry is so in a table, and past its end
pub table_few : (f : ℕ → ℕ) (x i n : ℕ) → ((j : ℕ) → j < i + n → f j ≤ x) → (k : ℕ) → get_or (table f i n) k 0 ≤ x
unfolding table
table_few f x i zero h k = omega arith
table_few f x i (suc n) h zero = h i (omega arith)
table_few f x i (suc n) h (suc k) = table_few f x (suc i) n (λ j l. h j (omega arith)) k

-- the same entries, the same table
pub table_same : (f g : ℕ → ℕ) (i n : ℕ) → ((k : ℕ) → i ≤ k → k < i + n → f k ≡ g k) → table f i n ≡ table g i n
unfolding table
table_same f g i zero h = refl
table_same f g i (suc n) h =
    rw (h i (omega arith) (omega arith), table_same f g (suc i) n (λ k a b. h k (omega arith) (omega arith)))

-- both ways of a choice
pub cond_few : (b : Bool) (y z x : ℕ) → y ≤ x → z ≤ x → cond b y z ≤ x
cond_few true y z x p q = p
cond_few false y z x p q = q

module _ (f : ℕ → ℕ) (n rest size : ℕ) where
  -- what a filled column says
  entry : (k : ℕ) → k < size → get_or (filled f n rest size) k 0 ≡ cond (ltb k n) (f k) rest
  entry k l = table_at (λ i. cond (ltb i n) (f i) rest) 0 size k l ∙ ap (λ (i : ℕ). cond (ltb i n) (f i) rest) (zero-add k)

  pub filled_at : (k : ℕ) → k < size → k < n → get_or (filled f n rest size) k 0 ≡ f k
  filled_at k l m = entry k l ∙ rw (lt-ltb k n m)

  pub filled_past : (k : ℕ) → k < size → n ≤ k → get_or (filled f n rest size) k 0 ≡ rest
  filled_past k l m = entry k l ∙ rw (le-ltb k n m)

  pub filled_few : (x : ℕ) → ((i : ℕ) → f i ≤ x) → rest ≤ x → (k : ℕ) → get_or (filled f n rest size) k 0 ≤ x
  filled_few x h r = table_few (λ i. cond (ltb i n) (f i) rest) x 0 size (λ i l. cond_few (ltb i n) (f i) rest x (h i) r)

  -- the entries below i are filled
  pub record Filling (i : ℕ) (out : List ℕ) : Type 0 where
    pub to_end : i ≤ n
    pub length_is : length out ≡ size
    pub at : (k : ℕ) → k < size → get_or out k 0 ≡ cond (ltb k i) (f k) rest

  pub fill_start : Filling 0 (replicate size rest)
  fill_start = record {
    to_end = omega arith;
    length_is = length-replicate size rest;
    at = λ k l. get_or-replicate size k rest 0 l ∙ rw (le-ltb k 0 (omega arith));
  }

  module _ {i : ℕ} {out : List ℕ} (s : Filling i out) where
    pub fill_next : (v : ℕ) → i < n → n ≤ size → v ≡ f i → Filling (i + 1) (set out i v)
    fill_next v l m e = record {
      to_end = omega arith;
      length_is = length-set out i v ∙ s.length_is;
      at = λ k h. elim (trio k i) [
        | inl q ↦ get_or-set_other out i k v 0 (λ d. omega arith) ∙ s.at k h ∙ rw (lt-ltb k i q, lt-ltb k (i + 1) (omega arith))
        | inr t ↦ elim t [
          | inl q ↦ rw (q, lt-ltb i (i + 1) (omega arith), ← e) (get_or-set_same out i v 0 (omega (arith, s.length_is)))
          | inr q ↦ get_or-set_other out i k v 0 (λ d. omega arith) ∙ s.at k h ∙ rw (le-ltb k i (omega arith), le-ltb k (i + 1) (omega arith))
        ]
      ];
    }

    pub fill_end : n ≤ i → out ≡ filled f n rest size
    fill_end l =
        let e : i ≡ n = omega (arith, s.to_end) in
        ext_get_or 0 out (filled f n rest size) (s.length_is ∙ sym (table_length _ 0 size))
        (λ k h. let m : k < size = omega (arith, s.length_is) in s.at k m ∙ rw e (sym (entry k m)))

-- a column made from each index
table_made : (f : ℕ → ℕ) (n : ℕ) (out : List ℕ) → length out ≡ n → ((k : ℕ) → k < n → get_or out k 0 ≡ f k) → out ≡ table f 0 n
table_made f n out e at = ext_get_or 0 out (table f 0 n) (e ∙ sym (table_length f 0 n))
    (λ k l. let m : k < n = omega (arith, e) in at k m ∙ sym (table_at f 0 n k m ∙ ap f (zero-add k)))

-- an array made by a closure that gives h of each index
module _ {F : Type 0} (g : Mut F (ℕ × Unit {0}) ℕ) (f : F) (h : ℕ → ℕ) (gives : (i y : ℕ) (q : F) → Called g f (i, tt) y q → (q ≡ f) × (y ≡ h i)) where
  made_from : (ys : List ℕ) (i n : ℕ) → IsFromFnResultFrom g f ys i n → (k : ℕ) → i ≤ k → k < i + n → get_or ys k 0 ≡ h k
  made_from ys i zero made k l m = absurd (omega arith)
  made_from ys i (suc n) made k l m =
      let given = gives i made.1 made.0 made.3 in
      elim (trio k i) [
        | inl p ↦ absurd (omega arith)
        | inr t ↦ elim t [
          | inl p ↦ rw p (made.2.1 0 ∙ given.1)
          | inr p ↦ made_from ys (i + 1) n (subst (λ (q : F). IsFromFnResultFrom g q ys (i + 1) n) given.0 made.4) k (omega arith) (omega arith)
        ]
      ]

  pub array_made : (ys : List ℕ) (n : ℕ) → IsFromFnResult g f ys n → ys ≡ table h 0 n
  array_made ys n made = table_made h n ys made.long (λ k l. made_from ys 0 n made.each k (omega arith) (omega arith))
