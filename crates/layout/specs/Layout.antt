-- What a flush needs beside its start, from the columns: keys of the objects, volumes by key, the new sizes, the numbers, and the places.
use Rattle.std.specs.Prelude.{ℕ, zero, suc, ◌+◌, ◌-◌, ◌*◌, ◌≤◌, max, ◌≡◌, Bool, cond, ◌&&◌, List, length, get_or, set, replicate, leb, ltb, eqb}
use Rattle.rules.specs.House.{share, classes, most_objects}
use Rattle.rules.specs.Classes.{class_of}
use Rattle.rules.specs.Regions.{col, table, column, span, up_from, buffer_size, start_of, footprint}
use Rattle.rules.specs.Columns.{stays, of_payload, of_overflow}
use Rattle.layout.specs.declared.Layout.{Layout}

-- a column holds numbers that are small enough for sums of them
abbrev pub Small : List ℕ → Type 0
Small xs = (k : ℕ) → get_or xs k 0 ≤ 16777216

-- a column of `size` numbers: f below n, then `rest`
abbrev pub filled : (ℕ → ℕ) → ℕ → ℕ → ℕ → List ℕ
filled f n rest size = table (λ i. cond (ltb i n) (f i) rest) 0 size

-- KEYS: the class of each object
unfoldable pub classes_of : List ℕ → ℕ → List ℕ
classes_of lens n = filled (λ i. class_of (get_or lens i 0)) n 0 most_objects

-- an object lies in the payload of its class, by its place and length
abbrev pub in_payload_at : List ℕ → ℕ → ℕ → Bool
in_payload_at sizes at len =
    leb (start_of share sizes (class_of len)) at && leb (at + len) (start_of share sizes (class_of len) + col sizes (class_of len))

-- the kind of an old object
abbrev pub old_kind : List ℕ → ℕ → ℕ → ℕ → ℕ
old_kind sizes b at len = cond (leb (start_of share sizes b) at) (cond (in_payload_at sizes at len) of_payload of_overflow) stays

-- the kind of each object; behind the old ones all are of overflow
unfoldable pub kinds_of : List ℕ → ℕ → List ℕ → List ℕ → ℕ → List ℕ
kinds_of sizes b places lens old = filled (λ i. old_kind sizes b (get_or places i 0) (get_or lens i 0)) old of_overflow most_objects

-- the number of classes that a length can have: 0, and one past the last, too
abbrev pub row : ℕ
row = 2 + classes

-- a kind and a class as one key
abbrev pub slot_of : ℕ → ℕ → ℕ
slot_of kind class = row * kind + class

abbrev pub slot_count : ℕ
slot_count = 3 * row

-- the slot of each object
unfoldable pub slots_of : List ℕ → List ℕ → ℕ → List ℕ
slots_of kinds cs n = filled (λ i. slot_of (get_or kinds i 0) (get_or cs i 0)) n 0 most_objects

-- VOLUMES: of those of the n objects from index i on whose key is k
unfoldable pub key_volume : List ℕ → List ℕ → ℕ → ℕ → ℕ → ℕ
key_volume keys lens k i zero = 0
key_volume keys lens k i (suc n) = cond (eqb (get_or keys i 0) k) (get_or lens i 0) 0 + key_volume keys lens k (suc i) n

-- the volume of each key
unfoldable pub tally_of : List ℕ → List ℕ → ℕ → List ℕ
tally_of keys lens n = table (λ k. key_volume keys lens k 0 n) 0 slot_count

-- NUMBERS: the new sizes, from class b on the volumes
unfoldable pub sizes_by : List ℕ → ℕ → List ℕ → List ℕ
sizes_by sizes b volumes = column (λ i. cond (ltb i b) (col sizes i) (col volumes i))

-- D: the greatest of the n lengths from index i on, 0 if there are none
unfoldable pub longest_by : List ℕ → ℕ → ℕ → ℕ
longest_by lens i zero = 0
longest_by lens i (suc n) = max (get_or lens i 0) (longest_by lens (suc i) n)

-- B + D
abbrev pub limit_by : List ℕ → ℕ → ℕ → ℕ
limit_by sizes b longest = span (buffer_size share sizes) b (up_from b) + longest

-- G, from the old and the new sizes and B + D
abbrev pub goal_by : List ℕ → List ℕ → ℕ → ℕ
goal_by sizes news most = max (footprint share sizes) (footprint share news) + most

-- PLACES: each object behind those of its key that came before it, from where its key starts
unfoldable pub places_by : List ℕ → List ℕ → ℕ → List ℕ → List ℕ
places_by keys lens n starts =
    filled (λ i. get_or starts (get_or keys i 0) 0 + key_volume keys lens (get_or keys i 0) 0 i) n 0 most_objects

-- where the kinds start between the phases: payload objects end where overflow starts
unfoldable pub middle_starts : ℕ → ℕ → List ℕ
middle_starts volume goal = set (set (replicate slot_count 0) of_payload (goal - volume)) of_overflow goal

-- the places between the phases. What it holds for objects that stay is of no use.
abbrev pub middles_by : List ℕ → List ℕ → ℕ → ℕ → List ℕ
middles_by kinds lens n goal = places_by kinds lens n (middle_starts (key_volume kinds lens of_payload 0 n) goal)

-- where the slots start at the end: overflow objects behind the payload objects of their class
abbrev pub home_at : List ℕ → List ℕ → ℕ → ℕ
home_at starts volumes k =
    cond (ltb k row) 0 (cond (ltb k (2 * row)) (get_or starts (k - row) 0) (get_or starts (k - 2 * row) 0 + get_or volumes (k - row) 0))

unfoldable pub homes_by : List ℕ → List ℕ → List ℕ
homes_by news volumes = table (home_at (table (start_of share news) 0 row) volumes) 0 slot_count

-- the places at the end, from the slots. What it holds for objects that stay is of no use.
abbrev pub finals_by : List ℕ → List ℕ → ℕ → List ℕ → List ℕ
finals_by slots lens n news = places_by slots lens n (homes_by news (tally_of slots lens n))

-- the new sizes, from the columns
abbrev pub new_sizes : List ℕ → ℕ → List ℕ → ℕ → List ℕ
new_sizes sizes b lens n = sizes_by sizes b (tally_of (classes_of lens n) lens n)

-- all that a flush needs, from B + D, kinds and new sizes
abbrev pub layout_by : List ℕ → ℕ → List ℕ → ℕ → ℕ → List ℕ → List ℕ → Layout
layout_by sizes most lens old n kinds news = record {
  kinds = kinds;
  middles = middles_by kinds lens n (goal_by sizes news most);
  finals = finals_by (slots_of kinds (classes_of lens n) n) lens n news;
  sizes = news;
  limit = most;
  next = goal_by sizes news most + key_volume kinds lens of_overflow 0 old;
  end = goal_by sizes news most + key_volume kinds lens of_overflow 0 n;
}

-- all that a flush needs
unfoldable pub layout_of : List ℕ → ℕ → List ℕ → List ℕ → ℕ → ℕ → Layout
layout_of sizes b places lens old n =
    layout_by sizes (limit_by sizes b (longest_by lens 0 n)) lens old n (kinds_of sizes b places lens old) (new_sizes sizes b lens n)

-- what those who use a layout may count on besides: the lengths of its columns, and that its kinds are kinds
pub record Bounded (l : Layout) : Type 0 where
  pub kinds_length : length l.kinds ≡ most_objects
  pub middles_length : length l.middles ≡ most_objects
  pub finals_length : length l.finals ≡ most_objects
  pub sizes_length : length l.sizes ≡ suc classes
  pub kinds_few : (k : ℕ) → get_or l.kinds k 0 ≤ of_overflow
