-- Texts put one behind the other into a buffer that has room for them.
use mathlib.Core.Path.{◌≡◌, refl, sym, ap, ◌∙◌}
use mathlib.Core.List.{List, [], ◌∷◌, ◌++◌, append_assoc, append-nil}
use Prim.Native.Nat.{ℕ, suc, ◌+◌, ◌*◌, ◌≤◌, ◌<◌}
use native.Mathlib.Omega.{arith}
use native.Mathlib.Numerals.{add-one}
use mathlib.Core.Logic.{◌⊎◌, inl, inr}
use lib.ListN.{length, get_or, take, drop, length-append, length-take, length-drop, drop_of_length-le}
use lib.Seq.{drop-cons, take_at, drop_at, drop-drop, length-take-le}
use borrow.Author.Tests.{le-leb}
use Rattle.texts.specs.Numbers.{decimal, put_into, place_behind}
use Rattle.texts.proofs.Digits.{decimal_short}
use Rattle.texts.specs.Fields.{blank, line_feed, field, number_line, Fronted}

-- a number of 64 bits and a byte have at most 21 bytes
pub field_short : (n by : ℕ) → length (field n by) ≤ 21
field_short n by = omega (arith, length-append (decimal n) (by ∷ []), decimal_short n)

-- so has each of a line of numbers
pub line_short : (ns : List ℕ) → length (number_line ns) ≤ 21 * length ns
line_short [] = omega arith
line_short (n ∷ []) = omega (arith, field_short n line_feed)
line_short (n ∷ m ∷ ns) =
    omega (arith, length-append (field n blank) (number_line (m ∷ ns)), field_short n blank, line_short (m ∷ ns))

-- a text that fits is put behind the front
pub put_front : (out : List ℕ) (at : ℕ) (text : List ℕ) (next : ℕ) (after : List ℕ) → at + length text ≤ length out
    → (next ≡ place_behind out at text) × (after ≡ put_into out at text) → Fronted out at text next after
put_front out at text next after room e =
    let fits = le-leb (at + length text) (length out) room in
    let behind = drop (at + length text) out in
    let whole : after ≡ (take at out ++ text) ++ behind = rw fits at e.1 ∙ sym (append_assoc (take at out) text behind) in
    let ends : next ≡ at + length text = rw fits at e.0 in
    let long : length (take at out ++ text) ≡ next = omega (arith, length-append (take at out) text, length-take-le at out (omega arith)) in
    record {
      ends = ends;
      front = rw whole (take_at (take at out ++ text) behind next long);
      behind = rw (whole, ends) (drop_at (take at out ++ text) behind (at + length text) (long ∙ ends));
      as_long = omega (arith, ap length whole, length-append (take at out ++ text) behind, long, length-drop (at + length text) out);
    }

-- two texts, one behind the other
pub both_front : {out mid after a b : List ℕ} {at next end : ℕ} → Fronted out at a next mid → Fronted mid next b end after
    → Fronted out at (a ++ b) end after
both_front {out} {mid} {a = a} {b = b} {at = at} {next = next} f g = record {
  ends = omega (arith, f.ends, g.ends, length-append a b);
  front = g.front ∙ ap (λ (xs : List ℕ). xs ++ b) f.front ∙ append_assoc (take at out) a b;
  behind = g.behind ∙ rw (g.ends, ← drop-drop (length b) next mid, ← drop-drop (length b) next out, f.behind);
  as_long = g.as_long ∙ f.as_long;
}

-- a number and the byte behind it
pub field_front : (out mid : List ℕ) (at n by next : ℕ) {after : List ℕ} {end : ℕ} → at + length (field n by) ≤ length out
    → (next ≡ place_behind out at (decimal n)) × (mid ≡ put_into out at (decimal n))
    → (end ≡ place_behind mid next (by ∷ [])) × (after ≡ put_into mid next (by ∷ [])) → Fronted out at (field n by) end after
field_front out mid at n by next {after} {end} room a b =
    let long = length-append (decimal n) (by ∷ []) in
    let f = put_front out at (decimal n) next mid (omega (arith, long)) a in
    both_front f (put_front mid next (by ∷ []) end after (omega (arith, f.ends, f.as_long, long)) b)

-- no text
pub front_nothing : (out : List ℕ) (at : ℕ) → Fronted out at [] at out
front_nothing out at = record { ends = omega arith; front = sym (append-nil (take at out)); behind = refl; as_long = refl }

-- a line from a number on: the number, behind it a blank or, behind the last, a line feed, and the line of those left
line_between : (ns : List ℕ) (i : ℕ) → i + 1 < length ns → number_line (drop i ns) ≡ field (get_or ns i 0) blank ++ number_line (drop (i + 1) ns)
line_between ns i more = rw (add-one i, drop-cons ns i 0 (omega arith), drop-cons ns (suc i) 0 (omega arith))

line_last : (ns : List ℕ) (i : ℕ) → i < length ns → length ns ≤ i + 1
    → number_line (drop i ns) ≡ field (get_or ns i 0) line_feed ++ number_line (drop (i + 1) ns)
line_last ns i more last =
    let past : length ns ≤ suc i = omega arith in
    let none : drop (suc i) ns ≡ [] = drop_of_length-le ns past in
    rw (add-one i, drop-cons ns i 0 more, none) (sym (append-nil (field (get_or ns i 0) line_feed)))

-- a line of numbers put up to one of them
pub record Lining (begun : List ℕ) (at : ℕ) (ns out : List ℕ) (next i : ℕ) : Type 0 where
  pub text : List ℕ
  pub front : Fronted begun at text next out
  pub whole : text ++ number_line (drop i ns) ≡ number_line ns

module _ {begun ns out : List ℕ} {at next i : ℕ} (l : Lining begun at ns out next i) where
  -- one number more, with the byte that belongs behind it
  module _ (more : i < length ns) (by : ℕ)
      (right : ((i + 1 < length ns) × (by ≡ blank)) ⊎ ((length ns ≤ i + 1) × (by ≡ line_feed))) where
    on : number_line (drop i ns) ≡ field (get_or ns i 0) by ++ number_line (drop (i + 1) ns)
    on = elim right [
      | inl p ↦ rw p.1 (line_between ns i p.0)
      | inr p ↦ rw p.1 (line_last ns i more p.0)
    ]

    pub line_on : {after : List ℕ} {end : ℕ} → Fronted out next (field (get_or ns i 0) by) end after → Lining begun at ns after end (i + 1)
    line_on f = record {
      text = l.text ++ field (get_or ns i 0) by;
      front = both_front l.front f;
      whole = append_assoc l.text (field (get_or ns i 0) by) (number_line (drop (i + 1) ns)) ∙ ap (λ (xs : List ℕ). l.text ++ xs) (sym on) ∙ l.whole;
    }

-- the text alone is the front of a buffer that it was put into from the start on
pub front_text : {out after text : List ℕ} {end : ℕ} → Fronted out 0 text end after → take end after ≡ text
front_text f = f.front

-- and it ends within the buffer
pub front_within : {out after text : List ℕ} {end : ℕ} → Fronted out 0 text end after → end ≤ length after
front_within {after = after} {end = end} f = omega (arith, f.ends, ap length f.front, length-take end after)
