-- Stores that fill a part of a map, and the loop that writes entries: up to a place the part is the map, from there on it is as it was.
use mathlib.Core.Path.{◌≡◌, refl, sym, ap, ◌∙◌}
use mathlib.Core.List.{List, [], ◌∷◌, ◌++◌, append_assoc, append-nil}
use Prim.Native.Nat.{ℕ, zero, suc, ◌+◌, ◌-◌, ◌*◌, ◌/◌, ◌%◌, ◌≤◌, ◌<◌}
use native.Mathlib.Nat.{not-suc-le-zero, le_of_suc-le-suc}
use native.Mathlib.Omega.{arith}
use lib.ListN.{length, take, drop, get_or, set, drop_of_length-le}
use lib.Seq.{drop-cons, take-add, drop-drop, take_at, drop_at, length-take-le, take_all}
use Rattle.rules.specs.Words.{byte_values, word_values}
use Rattle.rules.specs.Classes.{Obj}
use Rattle.rules.specs.Calls.{map_size}
use Rattle.rules.proofs.Lists.{each_long}
use Rattle.rules.specs.House.{entry_size, head_size}
use Rattle.mapform.specs.Entries.{entry_then, body_of, entries_from}
use Rattle.mapform.specs.Maps.{head_then, map_as}

-- four stores fill four places, and six fill six
four_stores : (l : List ℕ) (a b c d : ℕ) → length l ≡ 4 → set (set (set (set l 0 a) 1 b) 2 c) 3 d ≡ a ∷ b ∷ c ∷ d ∷ []
four_stores [] a b c d h = absurd (omega arith)
four_stores (_ ∷ []) a b c d h = absurd (omega arith)
four_stores (_ ∷ _ ∷ []) a b c d h = absurd (omega arith)
four_stores (_ ∷ _ ∷ _ ∷ []) a b c d h = absurd (omega arith)
four_stores (_ ∷ _ ∷ _ ∷ _ ∷ []) a b c d h = refl
four_stores (_ ∷ _ ∷ _ ∷ _ ∷ _ ∷ l) a b c d h = absurd (omega arith)

six_stores : (l : List ℕ) (a b c d e f : ℕ) → length l ≡ entry_size
    → set (set (set (set (set (set l 0 a) 1 b) 2 c) 3 d) 4 e) 5 f ≡ a ∷ b ∷ c ∷ d ∷ e ∷ f ∷ []
six_stores [] a b c d e f h = absurd (omega arith)
six_stores (_ ∷ []) a b c d e f h = absurd (omega arith)
six_stores (_ ∷ _ ∷ l) a b c d e f h = ap (λ (r : List ℕ). a ∷ b ∷ r) (four_stores l c d e f (omega arith))

-- the high byte of 16 bits
high : (x : ℕ) → x < word_values → x / byte_values ≡ x / byte_values % byte_values
high x h = omega arith

-- the bytes of the low 16 bits
low_high : (x : ℕ) → x % word_values / byte_values ≡ x / byte_values % byte_values
low_high x = omega arith

low_low : (x : ℕ) → x % word_values % byte_values ≡ x % byte_values
low_low x = omega arith

-- three numbers stored are an entry
pub entry_stores : (l : List ℕ) (x y z : ℕ) → x < word_values → z < word_values → length l ≡ entry_size
    → set (set (set (set (set (set l 0 (x / byte_values)) 1 (x % byte_values)) 2 (y % word_values / byte_values)) 3 (y % word_values % byte_values)) 4
    (z / byte_values)) 5 (z % byte_values) ≡ entry_then (record {
      name = x;
      at = y;
      len = z;
    }) []
entry_stores l x y z hx hz h =
    six_stores l (x / byte_values) (x % byte_values) (y % word_values / byte_values) (y % word_values % byte_values) (z / byte_values) (z % byte_values) h
    ∙ same
  where
    same : x / byte_values ∷ x % byte_values ∷ y % word_values / byte_values ∷ y % word_values % byte_values ∷ z / byte_values ∷ z % byte_values ∷ []
        ≡ entry_then (record { name = x; at = y; len = z }) []
    same = rw (← high x hx, ← high z hz, low_high y, low_low y)

-- version and count stored behind the mark are a head
pub head_stores : (l : List ℕ) (n : ℕ) → length l ≡ 4
    → set (set (set (set (82 ∷ 76 ∷ 77 ∷ l) 3 0) 4 1) 5 (n % word_values / byte_values)) 6 (n % word_values % byte_values) ≡ head_then n []
head_stores l n h =
    ap (λ (r : List ℕ). 82 ∷ 76 ∷ 77 ∷ r) (four_stores l 0 1 (n % word_values / byte_values) (n % word_values % byte_values) h)
    ∙ rw (low_high n, low_low n)

-- the size of the entries of a list
pub body_length : (os : List Obj) → length (body_of os) ≡ entry_size * length os
unfolding body_of
body_length = each_long body_of entry_size refl (λ o os. omega arith)

-- the size of a map
pub map_length : (os : List Obj) → length (map_as os) ≡ map_size (length os)
map_length os = omega (arith, body_length os)

body_drop : (i : ℕ) (os : List Obj) → i ≤ length os → drop (entry_size * i) (body_of os) ≡ body_of (drop i os)
unfolding body_of
body_drop zero os h = refl
body_drop (suc i) [] h = absurd (not-suc-le-zero h)
body_drop (suc i) (o ∷ os) h =
    let q : entry_size * suc i ≡ entry_size + entry_size * i = omega arith in
    rw (q, ← drop-drop (entry_size * i) entry_size (body_of (o ∷ os))) (body_drop i os (le_of_suc-le-suc h))

-- the bytes of the map at an entry
entry_bytes : (i : ℕ) (os : List Obj) (d : Obj) → i < length os → take entry_size (drop (map_size i) (map_as os)) ≡ entry_then (get_or os i d) []
unfolding body_of
entry_bytes i os d h = rw (← drop-drop (entry_size * i) head_size (map_as os), body_drop i os (omega arith), drop-cons os i d h)

-- i entries of n are put: up to the place reached the part is the map, and from there on it is as it was when it had its head, `first`
pub record Putting (os : List Obj) (n : ℕ) (first part : List ℕ) (i : ℕ) : Type 0 where
  pub within : i ≤ n
  pub fits : length part ≡ map_size n
  pub whole : length os ≡ n
  pub so_far : part ≡ take (map_size i) (map_as os) ++ drop (map_size i) first

-- after the head, no entry is put
pub put_start : (os : List Obj) (n : ℕ) (part out : List ℕ) → length os ≡ n → length part ≡ map_size n → out ≡ head_then n []
    → length (out ++ drop head_size part) ≡ length part
    → Putting os n (out ++ drop head_size part) (out ++ drop head_size part) 0
put_start os n part out en ep e same = record { within = omega arith; fits = same ∙ ep; whole = en; so_far = rw (e, en) }

module _ {os : List Obj} {n : ℕ} {first part : List ℕ} {i : ℕ} (p : Putting os n first part i) where
  -- one entry more, at its place
  pub put_turn : i < n → (d o : Obj) → get_or os i d ≡ o → (at : ℕ) → at ≡ map_size i → (out : List ℕ) → out ≡ entry_then o []
      → length (take at part ++ (out ++ drop (at + entry_size - at) (drop at part))) ≡ length part
      → Putting os n first (take at part ++ (out ++ drop (at + entry_size - at) (drop at part))) (i + 1)
  put_turn h d o eo at here out e same =
      let l : length (take at (map_as os)) ≡ at = length-take-le at (map_as os) (omega (arith, map_length os, here, p.whole)) in
      let q : at + entry_size - at ≡ entry_size = omega arith in
      let next : map_size (i + 1) ≡ at + entry_size = omega (arith, here) in
      let six : take entry_size (drop at (map_as os)) ≡ entry_then o [] = rw (here, ← eo) (entry_bytes i os d (omega (arith, p.whole))) in
      record {
        within = omega arith;
        fits = same ∙ p.fits;
        whole = p.whole;
        so_far = rw (
          p.so_far,
          ← here,
          next,
          q,
          take_at (take at (map_as os)) (drop at first) at l,
          drop_at (take at (map_as os)) (drop at first) at l,
          drop-drop entry_size at first,
          e,
          take-add at entry_size (map_as os),
          six,
        ) (sym (append_assoc (take at (map_as os)) (entry_then o []) (drop (at + entry_size) first)));
      }

  -- all entries put
  pub put_end : length first ≡ map_size n → n ≤ i → part ≡ map_as os
  put_end ef h =
      let m : length (map_as os) ≡ map_size n = map_length os ∙ ap map_size p.whole in
      let q : map_size i ≡ map_size n = omega (arith, p.within) in
      p.so_far ∙ rw (q, drop_of_length-le first {i = map_size n} (omega arith), take_all (map_size n) (map_as os) (omega arith)) (append-nil (map_as os))

-- what is read at an entry, told by where the entries start: at the first one, and at one behind it
pub at_first : {A : Type 0} (read : ℕ → A) (at : ℕ) → read (at + entry_size * 0) ≡ read at
at_first read at = let q : at + entry_size * 0 ≡ at = omega arith in rw q

pub at_next : {A : Type 0} (read : ℕ → A) (at k : ℕ) → read (at + entry_size * suc k) ≡ read (at + entry_size + entry_size * k)
at_next read at k = let q : at + entry_size * suc k ≡ at + entry_size + entry_size * k = omega arith in rw q

-- as many entries are read as are asked for
pub entries_length : (n i : ℕ) (s : List ℕ) → length (entries_from n s i) ≡ n
unfolding entries_from
entries_length zero i s = refl
entries_length (suc n) i s = ap suc (entries_length n (i + entry_size) s)
