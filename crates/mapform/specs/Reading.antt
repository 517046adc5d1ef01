-- What bytes denote: the answer to them as a map, and the list that they tell of.
use Rattle.std.specs.Prelude.{ℕ, ◌-◌, ◌*◌, Bool, true, cond, not, ◌&&◌, ◌||◌, List, [], ◌∷◌, ltb, leb, eqb, length, get_or}
use Rattle.rules.specs.House.{longest, most_objects, area_fits, head_size, entry_size}
use Rattle.rules.specs.Classes.{Obj, end_of}
use Rattle.rules.specs.Sound.{each, object_fits, names_differ}
use Rattle.rules.specs.Answers.{Test, first, accepted}
use Rattle.rules.specs.Calls.{test, map_size}
use Rattle.rules.specs.declared.Answer.{Answer}
use Rattle.rules.specs.declared.Answer.TheVariants.{WrongArea, NoMap, BadVersion, BadSize, BadEntry}
use Rattle.mapform.specs.Entries.{version, word_at, entries_from}

-- seven bytes at least, and the mark first
abbrev pub marked : List ℕ → Bool
marked s = leb head_size (length s) && (eqb (get_or s 0 0) 82 && (eqb (get_or s 1 0) 76 && eqb (get_or s 2 0) 77))

-- the count is within its limit, and the size is that of its entries
abbrev pub size_fits : List ℕ → Bool
size_fits s = leb (word_at s 5) most_objects && eqb (length s) (map_size (word_at s 5))

-- an object's name is above the one before, and it is within its limits and within a
abbrev pub entry_fits : ℕ → ℕ → Obj → Bool
entry_fits a before o = ltb before o.name && (ltb 0 o.len && (leb o.len longest && leb (end_of o) a))

-- the names rise from above `before`, and each object is within its limits
unfoldable pub entries_fit : ℕ → ℕ → List Obj → Bool
entries_fit a before [] = true
entries_fit a before (o ∷ os) = entry_fits a before o && entries_fit a o.name os

-- an object has no byte from lo up to hi
abbrev pub misses : ℕ → ℕ → Obj → Bool
misses lo hi o = leb hi o.at || leb (end_of o) lo

-- none of the objects has a byte from lo up to hi
unfoldable pub clear_of : ℕ → ℕ → List Obj → Bool
clear_of lo hi [] = true
clear_of lo hi (o ∷ os) = misses lo hi o && clear_of lo hi os

-- no two objects share a byte
unfoldable pub apart : List Obj → Bool
apart [] = true
apart (o ∷ os) = clear_of o.at (end_of o) os && apart os

-- the list that a map may tell of, in an area of length a
abbrev pub list_fits : ℕ → List Obj → Bool
list_fits a os = entries_fit a 0 os && apart os

-- a list in any order that a map may be made of: within the limits and within a, names differ, no two share a byte
unfoldable pub mappable : ℕ → List Obj → Bool
mappable a os =
    (area_fits a && leb (length os) most_objects) && ((each object_fits os && names_differ os) && (each (λ o. leb (end_of o) a) os && apart os))

-- what the entries tell of, as many as the count says
abbrev pub entries_of : List ℕ → List Obj
entries_of s = entries_from (word_at s 5) s head_size

-- the tests of a map, for an area of length a
abbrev pub map_tests : ℕ → List ℕ → List Test
map_tests a s =
    test (not (area_fits a)) WrongArea
    ∷ test (not (marked s)) NoMap
    ∷ test (not (eqb (word_at s 3) version)) BadVersion
    ∷ test (not (size_fits s)) BadSize
    ∷ test (not (list_fits a (entries_of s))) BadEntry
    ∷ []

-- the answer to a map
unfoldable pub map_answer : ℕ → List ℕ → Answer
map_answer a s = first (map_tests a s)

-- how many entries an opened map shows: none where it is refused
abbrev pub count_of : ℕ → List ℕ → ℕ
count_of a s = cond (accepted (map_answer a s)) (word_at s 5) 0

-- the list that bytes denote: empty where the map is refused
abbrev pub list_of : ℕ → List ℕ → List Obj
list_of a s = entries_from (count_of a s) s head_size

-- the bytes hold as many entries as a count says
abbrev pub has_room : List ℕ → ℕ → Bool
has_room s count = leb (entry_size * count) (length s - head_size)

-- how many entries are seen in bytes by a count: none where the bytes are too few
abbrev pub seen_count : List ℕ → ℕ → ℕ
seen_count s count = cond (has_room s count) count 0

-- what is seen in bytes by a count
abbrev pub seen_in : List ℕ → ℕ → List Obj
seen_in s count = entries_from (seen_count s count) s head_size
