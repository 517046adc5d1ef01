-- Long lines: one that asks for anything has at most 25 bytes, so a line cut to 26 bytes or more asks for what the whole line does.
use mathlib.Core.Path.{◌≡◌, refl, sym, ◌∙◌}
use mathlib.Core.Bool.{Bool, true, false}
use mathlib.Core.List.{List, [], ◌∷◌}
use Prim.Native.Nat.{ℕ, ◌+◌, ◌≤◌, ◌<◌, ◌*◌}
use native.Mathlib.Omega.{arith}
use borrow.Author.Tests.{ltb-true, ltb-false, eqb-true, eqb-false, le-leb, lt-leb}
use lib.ListN.{length, take}
use lib.Seq.{take_all, length-take-le}
use lib.Dec.{eqb, ltb}
use Rattle.lines.specs.Parts.{blank, first_part, onto, parted}
use Rattle.texts.specs.Numbers.{short_digits, long_digits, number_of}
use Rattle.lines.specs.Requests.{letter_of, three, numbers_of, asked_of, request_of, called_of, drill_of}
use Rattle.std.specs.Prelude.{Option, Some, None}
use Rattle.std.specs.Option.{option_and_then}
use Rattle.lines.proofs.Parting.{parted_none, parted_cut, parted_on, parted_some}
use Rattle.lines.proofs.Asking.{letter_other}

-- the bytes of some parts, with one for the cut behind each
abbrev weight : List (List ℕ) → ℕ
weight [] = 0
weight (p ∷ ps) = length p + (1 + weight ps)

weight_onto : (b : ℕ) (p : List ℕ) (ps : List (List ℕ)) → weight (onto b (p ∷ ps)) ≡ 1 + weight (p ∷ ps)
weight_onto b p ps = omega arith

parted_weight : (by : ℕ) (l : List ℕ) → weight (parted by l) ≡ 1 + length l
parted_weight by [] = rw (parted_none by) (omega arith)
parted_weight by (b ∷ bs) = by_test (parted_weight by bs) (eqb b by) refl
  where
    by_test : weight (parted by bs) ≡ 1 + length bs → (t : Bool) → eqb b by ≡ t → weight (parted by (b ∷ bs)) ≡ 1 + length (b ∷ bs)
    by_test ih true e = rw (parted_cut by b bs e) (omega arith)
    by_test ih false e =
        let p = parted_some by bs in
        let w : weight (first_part by bs ∷ p.0) ≡ 1 + length bs = rw p.1 at ih in
        rw (parted_on by b bs e, p.1) (omega (arith, weight_onto b (first_part by bs) p.0))

three_second : (u v : Option ℕ) → three u None v ≡ None
three_second (Some x) v = refl
three_second None v = refl

three_third : (u v : Option ℕ) → three u v None ≡ None
three_third (Some x) (Some y) = refl
three_third (Some x) None = refl
three_third None v = refl

-- a word of more than k bytes is no number of k digits
too_long : (k : ℕ) (w : List ℕ) → k < length w → number_of k w ≡ None
too_long k w h = rw (le-leb 1 (length w) (omega arith), lt-leb (length w) k h)

module _ (k : ℕ) (short : k ≤ long_digits) where
  -- three words of more bytes than three such numbers are not three numbers
  three_long : (a b c : List ℕ) → 3 * long_digits < length a + (length b + length c) → three (number_of k a) (number_of k b) (number_of k c) ≡ None
  three_long a b c h = by_first (ltb k (length a)) refl
    where
      by_second : (t : Bool) → ltb k (length b) ≡ t → length a ≤ k → three (number_of k a) (number_of k b) (number_of k c) ≡ None
      by_second true e f = rw (too_long k b (ltb-true k (length b) e)) (three_second (number_of k a) (number_of k c))
      by_second false e f = rw (too_long k c (omega (arith, ltb-false k (length b) e))) (three_third (number_of k a) (number_of k b))

      by_first : (t : Bool) → ltb k (length a) ≡ t → three (number_of k a) (number_of k b) (number_of k c) ≡ None
      by_first true e = rw (too_long k a (ltb-true k (length a) e))
      by_first false e = by_second (ltb k (length b)) refl (ltb-false k (length a) e)

  -- a letter and words of more than 25 bytes in all give no numbers
  numbers_long : (w : List ℕ) (ws : List (List ℕ)) → length w ≡ 1 → 26 < weight (w ∷ ws) → numbers_of k (w ∷ ws) ≡ None
  numbers_long w [] e h = absurd (omega arith)
  numbers_long w (a ∷ []) e h = rw (too_long k a (omega arith))
  numbers_long w (a ∷ b ∷ []) e h = refl
  numbers_long w (a ∷ b ∷ c ∷ []) e h = three_long a b c (omega arith)
  numbers_long w (a ∷ b ∷ c ∷ d ∷ ws) e h = refl

  -- so a long line has no letter or no numbers
  pub line_long : (l : List ℕ) → 25 < length l → (length (first_part blank l) ≡ 1) → numbers_of k (parted blank l) ≡ None
  line_long l h e =
      let p = parted_some blank l in
      let w : weight (first_part blank l ∷ p.0) ≡ 1 + length l = rw p.1 at (parted_weight blank l) in
      rw p.1 (numbers_long (first_part blank l) p.0 e (omega arith))

-- where each letter asks for nothing, nothing is asked
nothing_then : {A : Type 0} (asks : ℕ → Option A) → ((l : ℕ) → asks l ≡ None) → (o : Option ℕ) → option_and_then asks o ≡ None
nothing_then asks none None = refl
nothing_then asks none (Some l) = none l

module _ (l : List ℕ) (long : 25 < length l) where
  pub request_long : request_of l ≡ None
  request_long = by_test (eqb (length (first_part blank l)) 1) refl
    where
      by_test : (t : Bool) → eqb (length (first_part blank l)) 1 ≡ t → request_of l ≡ None
      by_test true e =
          rw (line_long short_digits (omega arith) l long (eqb-true (length (first_part blank l)) 1 e))
          (nothing_then (λ a. asked_of a None) (λ a. refl) (letter_of (first_part blank l)))
      by_test false e = rw (letter_other (first_part blank l) (eqb-false (length (first_part blank l)) 1 e))

  pub drill_long : drill_of l ≡ None
  drill_long = by_test (eqb (length (first_part blank l)) 1) refl
    where
      by_test : (t : Bool) → eqb (length (first_part blank l)) 1 ≡ t → drill_of l ≡ None
      by_test true e =
          rw (line_long long_digits (omega arith) l long (eqb-true (length (first_part blank l)) 1 e))
          (nothing_then (λ a. called_of a None) (λ a. refl) (letter_of (first_part blank l)))
      by_test false e = rw (letter_other (first_part blank l) (eqb-false (length (first_part blank l)) 1 e))

-- a line cut to what a buffer of 26 bytes or more holds asks for what the whole line does
module _ (room : ℕ) (enough : 26 ≤ room) (l : List ℕ) where
  cut_alike : {A : Type 0} (f : List ℕ → A) (bad : A) → ((l : List ℕ) → 25 < length l → f l ≡ bad) → f (take room l) ≡ f l
  cut_alike f bad longs = by_test (ltb room (length l)) refl
    where
      by_test : (t : Bool) → ltb room (length l) ≡ t → f (take room l) ≡ f l
      by_test true e =
          let more = ltb-true room (length l) e in
          longs (take room l) (omega (arith, length-take-le room l (omega arith))) ∙ sym (longs l (omega arith))
      by_test false e = rw (take_all room l (ltb-false room (length l) e))

  pub request_cut : request_of (take room l) ≡ request_of l
  request_cut = cut_alike request_of None request_long

  pub drill_cut : drill_of (take room l) ≡ drill_of l
  drill_cut = cut_alike drill_of None drill_long
