-- Bytes copied: the entries that are read of bytes, put again, are the same bytes.
use Prim.Native.Nat.{ℕ, zero, suc, ◌+◌, ◌-◌, ◌*◌, ◌/◌, ◌%◌, ◌≤◌, ◌<◌, min}
use mathlib.Core.Path.{◌≡◌, refl, sym, ap, ◌∙◌}
use mathlib.Core.List.{List, [], ◌∷◌, ◌++◌, append-nil}
use mathlib.Core.Logic.{⊎_elim}
use native.Mathlib.Numerals.{add-one}
use native.Mathlib.Omega.{arith}
use lib.ListN.{length, take, drop, get_or, length-drop, drop_of_length-le}
use lib.Seq.{drop-cons, take-add, drop-drop, take_all}
use Rattle.rules.specs.Words.{byte_values}
use Rattle.rules.specs.House.{entry_size, head_size}
use Rattle.rules.proofs.Tables.{below_or_not}
use Rattle.mapform.specs.Entries.{entry_at, entry_then, body_of, entries_from}
use Rattle.mapform.specs.Maps.{head_then, map_as}
use Rattle.mapform.proofs.Puts.{entries_length}

-- every element is a byte
abbrev pub Bytes : List ℕ → Type 0
Bytes s = (k : ℕ) → get_or s k 0 < byte_values

-- the first of the bytes behind j
pub cut : (s : List ℕ) (j k : ℕ) → j + 1 ≡ k → j < length s → drop j s ≡ get_or s j 0 ∷ drop k s
cut s j k e h = rw (← e, add-one, drop-cons s j 0)

-- the two bytes of a number that two bytes make
pub high_byte : (x y : ℕ) → x < byte_values → y < byte_values → (x * byte_values + y) / byte_values % byte_values ≡ x
high_byte x y h k = omega arith

pub low_byte : (x y : ℕ) → y < byte_values → (x * byte_values + y) % byte_values ≡ y
low_byte x y h = omega arith

module _ (s : List ℕ) (b : Bytes s) where
  six : (i : ℕ) → i + entry_size ≤ length s → drop i s ≡ entry_then (entry_at s i) (drop (i + entry_size) s)
  six i h =
      rw (
        high_byte (get_or s i 0) (get_or s (i + 1) 0) (b i) (b (i + 1)),
        low_byte (get_or s i 0) (get_or s (i + 1) 0) (b (i + 1)),
        high_byte (get_or s (i + 2) 0) (get_or s (i + 2 + 1) 0) (b (i + 2)) (b (i + 2 + 1)),
        low_byte (get_or s (i + 2) 0) (get_or s (i + 2 + 1) 0) (b (i + 2 + 1)),
        high_byte (get_or s (i + 4) 0) (get_or s (i + 4 + 1) 0) (b (i + 4)) (b (i + 4 + 1)),
        low_byte (get_or s (i + 4) 0) (get_or s (i + 4 + 1) 0) (b (i + 4 + 1)),
      )
      (rw (
        cut s i (i + 1) refl (omega arith),
        cut s (i + 1) (i + 2) (omega arith) (omega arith),
        cut s (i + 2) (i + 2 + 1) (omega arith) (omega arith),
        cut s (i + 2 + 1) (i + 4) (omega arith) (omega arith),
        cut s (i + 4) (i + 4 + 1) (omega arith) (omega arith),
        cut s (i + 4 + 1) (i + entry_size) (omega arith) (omega arith),
      ))

  -- the bytes of n entries from place i on
  pub body_copied : (n i : ℕ) → entry_size * n ≤ length s - i → body_of (entries_from n s i) ≡ take (entry_size * n) (drop i s)
  unfolding body_of entries_from
  body_copied zero i h = refl
  body_copied (suc n) i h =
      let q : entry_size * suc n ≡ entry_size + entry_size * n = omega arith in
      rw (q, take-add entry_size (entry_size * n) (drop i s), drop-drop entry_size i s, six i (omega arith))
      (ap (entry_then (entry_at s i)) (body_copied n (i + entry_size) (omega arith)))

  -- a head before a copy of n entries is their map
  pub head_copied : (n : ℕ) (tail rest : List ℕ) → entry_size * n ≤ length s - head_size → tail ≡ drop head_size s → rest ≡ []
      → head_then n (take (entry_size * n) tail ++ rest) ≡ map_as (entries_from n s head_size)
  head_copied n tail rest h et er =
      rw (entries_length n head_size s, body_copied n head_size h, er, et) (ap (head_then n) (append-nil (take (entry_size * n) (drop head_size s))))

-- what stands behind a head, or behind the end of bytes that have none
pub behind_head : (s : List ℕ) → take (length s - min head_size (length s)) (drop (min head_size (length s)) s) ≡ drop head_size s
behind_head s =
    take_all (length s - min head_size (length s)) (drop (min head_size (length s)) s) (omega (arith, length-drop (min head_size (length s)) s))
    ∙ ⊎_elim (λ l. drop_of_length-le s {i = min head_size (length s)} (omega arith) ∙ sym (drop_of_length-le s {i = head_size} (omega arith)))
    (λ l. let e : min head_size (length s) ≡ head_size = omega arith in ap (λ (i : ℕ). drop i s) e) (below_or_not (length s) head_size)
