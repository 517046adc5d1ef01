-- Parts: the first one and its end, and the parts of what lies behind it.
use mathlib.Core.Path.{◌≡◌, refl, sym, ap, ◌∙◌}
use mathlib.Core.Bool.{Bool, true, false, cond}
use mathlib.Core.List.{List, [], ◌∷◌}
use Prim.Native.Nat.{ℕ, suc, ◌+◌, ◌-◌, ◌≤◌, ◌<◌, min}
use native.Mathlib.Omega.{arith}
use borrow.Author.Tests.{ltb-true, ltb-false}
use lib.ListN.{length, take, drop, length-drop, drop_of_length-le}
use lib.Seq.{drop-drop, take_all}
use lib.Dec.{eqb, ltb}
use Rattle.std.specs.List.{position, position_or_len}
use Rattle.std.specs.Option.{unwrap_or}
use Rattle.std.specs.Prelude.{Option}
use Rattle.std.proofs.lemmas.List.Recursion.{is_position_or_len}
use Rattle.lines.specs.Parts.{first_part, onto, parted, part_end}

module _ (by : ℕ) where
  -- a byte that cuts, and one that does not
  pub first_cut : (b : ℕ) (bs : List ℕ) → eqb b by ≡ true → first_part by (b ∷ bs) ≡ []
  unfolding first_part
  first_cut b bs e = rw e

  pub first_on : (b : ℕ) (bs : List ℕ) → eqb b by ≡ false → first_part by (b ∷ bs) ≡ b ∷ first_part by bs
  unfolding first_part
  first_on b bs e = rw e

  pub first_none : first_part by [] ≡ []
  unfolding first_part
  first_none = refl

  pub parted_cut : (b : ℕ) (bs : List ℕ) → eqb b by ≡ true → parted by (b ∷ bs) ≡ [] ∷ parted by bs
  unfolding parted
  parted_cut b bs e = rw e

  pub parted_on : (b : ℕ) (bs : List ℕ) → eqb b by ≡ false → parted by (b ∷ bs) ≡ onto b (parted by bs)
  unfolding parted
  parted_on b bs e = rw e

  pub parted_none : parted by [] ≡ [] ∷ []
  unfolding parted
  parted_none = refl

  -- the first part is the front of the bytes
  pub first_taken : (l : List ℕ) → take (length (first_part by l)) l ≡ first_part by l
  first_taken [] = rw first_none
  first_taken (b ∷ bs) = by_test (first_taken bs) (eqb b by) refl
    where
      by_test : take (length (first_part by bs)) bs ≡ first_part by bs → (t : Bool) → eqb b by ≡ t
          → take (length (first_part by (b ∷ bs))) (b ∷ bs) ≡ first_part by (b ∷ bs)
      by_test ih true e = rw (first_cut b bs e)
      by_test ih false e = rw (first_on b bs e) (ap (λ (k : List ℕ). b ∷ k) ih)

  pub first_short : (l : List ℕ) → length (first_part by l) ≤ length l
  first_short [] = rw first_none (omega arith)
  first_short (b ∷ bs) = by_test (first_short bs) (eqb b by) refl
    where
      by_test : length (first_part by bs) ≤ length bs → (t : Bool) → eqb b by ≡ t → length (first_part by (b ∷ bs)) ≤ length (b ∷ bs)
      by_test ih true e = rw (first_cut b bs e) (omega arith)
      by_test ih false e = rw (first_on b bs e) (omega arith)

  longer : (b : ℕ) (bs : List ℕ) → length (first_part by (b ∷ bs)) ≡ cond (eqb b by) 0 (1 + length (first_part by bs))
  longer b bs = by_test (eqb b by) refl
    where
      by_test : (t : Bool) → eqb b by ≡ t → length (first_part by (b ∷ bs)) ≡ cond (eqb b by) 0 (1 + length (first_part by bs))
      by_test true e = rw (first_cut b bs e, e)
      by_test false e = rw (first_on b bs e, e) (omega arith)

  -- the place of the first `by`, or the length
  pub first_placed : (l : List ℕ) → unwrap_or (position (λ b. eqb b by) l) (length l) ≡ length (first_part by l)
  first_placed l = by_test (ltb (position_or_len (λ b. eqb b by) l) (length l)) refl
    where
      by_test : (t : Bool) → ltb (position_or_len (λ b. eqb b by) l) (length l) ≡ t
          → unwrap_or (position (λ b. eqb b by) l) (length l) ≡ length (first_part by l)
      by_test true e = rw e (sym (is_position_or_len (λ k. length (first_part by k)) (λ b. eqb b by) (ap length first_none) longer l))
      by_test false e =
          let longest : length l ≤ length (first_part by l) = omega (
            arith,
            is_position_or_len (λ k. length (first_part by k)) (λ b. eqb b by) (ap length first_none) longer l,
            ltb-false _ _ e,
          ) in
          rw e (omega (arith, first_short l))

  -- no cut: one part
  pub parted_one : (l : List ℕ) → length l ≤ length (first_part by l) → parted by l ≡ first_part by l ∷ []
  parted_one [] h = rw (parted_none, first_none)
  parted_one (b ∷ bs) h = by_test (λ q. parted_one bs q) (eqb b by) refl
    where
      by_test : (length bs ≤ length (first_part by bs) → parted by bs ≡ first_part by bs ∷ []) → (t : Bool) → eqb b by ≡ t
          → parted by (b ∷ bs) ≡ first_part by (b ∷ bs) ∷ []
      by_test ih true e = absurd (omega (arith, ap length (first_cut b bs e)))
      by_test ih false e = rw (parted_on b bs e, first_on b bs e, ih (omega (arith, ap length (first_on b bs e))))

  -- a cut: the first part, and the parts behind the cut
  pub parted_more : (l : List ℕ) → length (first_part by l) < length l
      → parted by l ≡ first_part by l ∷ parted by (drop (suc (length (first_part by l))) l)
  parted_more [] h = absurd (omega arith)
  parted_more (b ∷ bs) h = by_test (λ q. parted_more bs q) (eqb b by) refl
    where
      by_test : (length (first_part by bs) < length bs → parted by bs ≡ first_part by bs ∷ parted by (drop (suc (length (first_part by bs))) bs))
          → (t : Bool) → eqb b by ≡ t
          → parted by (b ∷ bs) ≡ first_part by (b ∷ bs) ∷ parted by (drop (suc (length (first_part by (b ∷ bs)))) (b ∷ bs))
      by_test ih true e = rw (parted_cut b bs e, first_cut b bs e)
      by_test ih false e = rw (parted_on b bs e, first_on b bs e, ih (omega (arith, ap length (first_on b bs e))))

  -- there is always a part
  pub parted_some : (l : List ℕ) → (ps : List (List ℕ)) × (parted by l ≡ first_part by l ∷ ps)
  parted_some l = by_test (ltb (length (first_part by l)) (length l)) refl
    where
      by_test : (t : Bool) → ltb (length (first_part by l)) (length l) ≡ t → (ps : List (List ℕ)) × (parted by l ≡ first_part by l ∷ ps)
      by_test true e = (_, parted_more l (ltb-true _ _ e))
      by_test false e = (_, parted_one l (ltb-false _ _ e))

  module _ (l : List ℕ) (i : ℕ) where
    -- what stands from a place on, and the part's end by the first `by` in it
    rest_dropped : (m : ℕ) → m ≡ min i (length l) → take (length l - m) (drop m l) ≡ drop i l
    rest_dropped m e = by_test (ltb i (length l)) refl
      where
        by_test : (t : Bool) → ltb i (length l) ≡ t → take (length l - m) (drop m l) ≡ drop i l
        by_test true before =
            let same : m ≡ i = omega (arith, ltb-true i (length l) before) in
            rw same (take_all (length l - i) (drop i l) (omega (arith, length-drop i l)))
        by_test false past =
            let whole : m ≡ length l = omega (arith, ltb-false i (length l) past) in
            let none : length l - m ≡ 0 = omega arith in
            rw (none, drop_of_length-le l (ltb-false i (length l) past)) refl

    pub end_found : (m : ℕ) (found : Option ℕ) (k : ℕ) → m ≡ min i (length l)
        → found ≡ position (λ b. eqb b by) (take (length l - m) (drop m l))
        → k ≡ unwrap_or found (length (take (length l - m) (drop m l)))
        → i + k ≡ part_end by l i
    end_found m found k e f p =
        ap (λ n. i + n) (rw f at p ∙ first_placed (take (length l - m) (drop m l)) ∙ ap (λ (x : List ℕ). length (first_part by x)) (rest_dropped m e))

    -- the end lies within the bytes
    pub end_within : i ≤ length l → part_end by l i ≤ length l
    end_within h = omega (arith, first_short (drop i l), length-drop i l)

    module _ (end : ℕ) (ends : end ≡ part_end by l i) where
      -- a part that ends with the bytes is the last
      pub last_part : length l ≤ end → parted by (drop i l) ≡ first_part by (drop i l) ∷ []
      last_part whole = parted_one (drop i l) (omega (arith, length-drop i l))

      -- behind one that ends before come the parts from the next place on
      pub next_parts : end < length l → parted by (drop i l) ≡ first_part by (drop i l) ∷ parted by (drop (end + 1) l)
      next_parts h =
          let e : i + suc (length (first_part by (drop i l))) ≡ end + 1 = omega arith in
          parted_more (drop i l) (omega (arith, length-drop i l)) ∙ rw (drop-drop (suc (length (first_part by (drop i l)))) i l, e)

      -- the bytes up to the end are the part
      pub part_taken : take (end - i) (drop i l) ≡ first_part by (drop i l)
      part_taken = let e : end - i ≡ length (first_part by (drop i l)) = omega arith in rw e (first_taken (drop i l))
