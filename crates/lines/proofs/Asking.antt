-- A line's letter and numbers, by the places where its words end.
use mathlib.Core.Path.{◌≡◌, refl, sym, ap, ◌∙◌}
use mathlib.Core.List.{List, [], ◌∷◌}
use Prim.Native.Nat.{ℕ, ◌+◌, ◌≤◌, ◌<◌}
use native.Mathlib.Omega.{arith}
use lib.ListN.{length, get_or, drop}
use lib.Seq.{get_or-take}
use Rattle.lines.specs.Parts.{blank, first_part, parted, part_end}
use Rattle.texts.specs.Numbers.{number_of}
use Rattle.lines.specs.Requests.{letter_of, one, three, two_more, numbers_of}
use Rattle.std.specs.Prelude.{Option, Some, None}
use Rattle.lines.specs.declared.Numbers.TheVariants.{Zero}
use Rattle.lines.proofs.Parting.{first_taken, last_part, next_parts, parted_some}

-- a word of one byte is a letter
letter_first : (w : List ℕ) → length w ≡ 1 → letter_of w ≡ Some (get_or w 0 0)
letter_first [] h = absurd (omega arith)
letter_first (b ∷ []) h = refl
letter_first (b ∷ c ∷ bs) h = absurd (omega arith)

pub letter_other : (w : List ℕ) → (length w ≡ 1 → ⊥) → letter_of w ≡ None
letter_other [] h = refl
letter_other (b ∷ []) h = absurd (h refl)
letter_other (b ∷ c ∷ bs) h = refl

pub letter_here : (l : List ℕ) (end : ℕ) → end ≡ part_end blank l 0 → end ≡ 1 → Some (get_or l 0 0) ≡ letter_of (first_part blank l)
letter_here l end e h =
    let n : length (first_part blank l) ≡ 1 = omega arith in
    sym (letter_first (first_part blank l) n ∙ ap (λ (w : List ℕ). Some (get_or w 0 0)) (sym (first_taken blank l))
    ∙ ap Some (get_or-take (length (first_part blank l)) l 0 0 (omega arith)))

-- two more words: none or one, more than two, two of which one may be no number
module _ (l : List ℕ) (i k n : ℕ) (end : ℕ) (ends : end ≡ part_end blank l i) where
  pub more_one : length l ≤ end → None ≡ two_more k (Some n) (parted blank (drop i l))
  more_one e = rw (last_part blank l i end ends e)

  module _ (last : ℕ) (lasts : last ≡ part_end blank l (end + 1)) (some : end < length l) where
    pub more_three : last < length l → None ≡ two_more k (Some n) (parted blank (drop i l))
    more_three e =
        let p = parted_some blank (drop (last + 1) l) in
        rw (next_parts blank l i end ends some, next_parts blank l (end + 1) last lasts e, p.1)

    pub more_two : length l ≤ last → (x y : Option ℕ) → x ≡ number_of k (first_part blank (drop i l))
        → y ≡ number_of k (first_part blank (drop (end + 1) l))
        → three (Some n) x y ≡ two_more k (Some n) (parted blank (drop i l))
    more_two e x y p q =
        rw (next_parts blank l i end ends some, last_part blank l (end + 1) last lasts e, p, q)

    pub second_none : length l ≤ last → None ≡ number_of k (first_part blank (drop i l)) → None ≡ two_more k (Some n) (parted blank (drop i l))
    second_none e p = more_two e None (number_of k (first_part blank (drop (end + 1) l))) p refl

-- a first word that is no number
more_none : (k : ℕ) (ws : List (List ℕ)) → None ≡ two_more k None ws
more_none k [] = refl
more_none k (a ∷ []) = refl
more_none k (a ∷ b ∷ []) = refl
more_none k (a ∷ b ∷ w ∷ ws) = refl

-- the numbers: none, one, one and more
module _ (l : List ℕ) (k : ℕ) (end : ℕ) (ends : end ≡ part_end blank l 0) where
  pub numbers_none : length l ≤ end → Some Zero ≡ numbers_of k (parted blank l)
  numbers_none e = let p : parted blank l ≡ first_part blank l ∷ [] = last_part blank l 0 end ends e in rw p

  module _ (next : ℕ) (nexts : next ≡ part_end blank l (end + 1)) (some : end < length l) (x : Option ℕ)
      (reads : x ≡ number_of k (first_part blank (drop (end + 1) l))) where
    first_word : parted blank l ≡ first_part blank l ∷ parted blank (drop (end + 1) l)
    first_word = next_parts blank l 0 end ends some

    pub numbers_one : length l ≤ next → one x ≡ numbers_of k (parted blank l)
    numbers_one e = rw (first_word, last_part blank l (end + 1) next nexts e, reads)

    pub numbers_more : next < length l → two_more k x (parted blank (drop (next + 1) l)) ≡ numbers_of k (parted blank l)
    numbers_more e = rw (first_word, next_parts blank l (end + 1) next nexts e, reads)

    pub numbers_wrong : x ≡ None → None ≡ numbers_of k (parted blank l)
    numbers_wrong e =
        let p = parted_some blank (drop (end + 1) l) in
        more_none k p.0 ∙ rw (first_word, p.1, ← reads, e)
