-- A map put at a buffer's front: where it has room the lent part becomes the map and the rest stays, else nothing is written.
use Prim.Native.Nat.{ℕ, ◌≤◌, ◌<◌}
use mathlib.Core.Path.{◌≡◌, sym, ap, ◌∙◌}
use mathlib.Core.List.{List, ◌++◌, map}
use native.Mathlib.Omega.{arith}
use borrow.Author.Tests.{le-leb, lt-leb}
use lib.ListN.{length, take, drop, get_or}
use lib.Seq.{length-take-le, get_or-take}
use Rattle.rules.specs.Words.{word_values}
use Rattle.rules.specs.House.{head_size}
use Rattle.rules.specs.Columns.{object_at, listed}
use Rattle.rules.specs.declared.Answer.TheVariants.{Done, ShortBuffer}
use Rattle.rules.specs.Calls.{map_size}
use Rattle.ranks.specs.Ranks.{in_name_order}
use Rattle.ranks.proofs.ByName.{order_below, order_by_name}
use Rattle.mapform.specs.Entries.{entries_from}
use Rattle.mapform.specs.Maps.{map_as, map_of, put_answer, put_into, objects_in, reach}
use Rattle.mapform.specs.Reading.{seen_count, seen_in}
use Rattle.mapform.proofs.Puts.{map_length, entries_length}
use Rattle.map_laws.proofs.Names.{columns_size}

module _ (m buf : List ℕ) (size : ℕ) (em : length m ≡ size) where
  pub put_short : length buf < size → (ShortBuffer ≡ put_answer m buf) × (buf ≡ put_into m buf)
  put_short h = let f = lt-leb (length m) (length buf) (omega arith) in (rw f, rw f)

  pub put_done : size ≤ length buf → (out : List ℕ) → out ≡ m → (Done ≡ put_answer m buf) × (out ++ drop size buf ≡ put_into m buf)
  put_done h out e = let f = le-leb (length m) (length buf) (omega arith) in (rw f, rw (f, e, em))

-- the map of what is seen
module _ (s : List ℕ) (count n : ℕ) (en : n ≡ seen_count s count) where
  pub seen_map : map_as (entries_from n s head_size) ≡ map_as (seen_in s count)
  seen_map = ap (λ (k : ℕ). map_as (entries_from k s head_size)) en

  pub seen_size : length (map_as (seen_in s count)) ≡ map_size n
  seen_size = ap length (sym seen_map) ∙ (map_length (entries_from n s head_size) ∙ ap map_size (entries_length n head_size s))

-- the map of columns
module _ (ns ps ls : List ℕ) (count n : ℕ) (en : n ≡ reach count (length ns) (length ps) (length ls)) where
  columns_map : map_of (listed ns ps ls 0 n) ≡ map_of (objects_in ns ps ls count)
  columns_map = ap (λ (k : ℕ). map_of (listed ns ps ls 0 k)) en

  pub columns_fit : length (map_of (objects_in ns ps ls count)) ≡ map_size n
  columns_fit = ap length (sym columns_map) ∙ columns_size ns ps ls n

  pub order_map : (order : List ℕ) → take n order ≡ in_name_order ns n → ((i : ℕ) → get_or ns i 0 < word_values)
      → map_as (map (object_at ns ps ls) (take n order)) ≡ map_of (objects_in ns ps ls count)
  order_map order sorted narrow = ap map_as (order_by_name ns ps ls narrow n order sorted) ∙ columns_map

-- every index of the order by name, which stands in the front of a longer array, is one of the n
pub order_inside : (ns order : List ℕ) (n : ℕ) → ((i : ℕ) → get_or ns i 0 < word_values) → take n order ≡ in_name_order ns n → n ≤ length order
    → (i : ℕ) → i < length (take n order) → get_or (take n order) i 0 < n
order_inside ns order n narrow sorted fits i h =
    let k : i < n = omega (arith, length-take-le n order fits) in
    rw (get_or-take n order i 0 k) (order_below ns narrow n order sorted i k)
