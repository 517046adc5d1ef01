-- Numbers of 16 bits and entries, as bytes. What a later version of the map changes stands behind `version` and the sizes of House.antt.
use Rattle.std.specs.Prelude.{ℕ, zero, suc, ◌+◌, ◌*◌, ◌/◌, ◌%◌, List, [], ◌∷◌, get_or}
use Rattle.rules.specs.House.{entry_size}
use Rattle.rules.specs.Words.{byte_values}
use Rattle.rules.specs.Classes.{Obj}

-- the version of a map
abbrev pub version : ℕ
version = 1

-- the low 16 bits of a number, high byte first, before what follows
abbrev pub word_then : ℕ → List ℕ → List ℕ
word_then x rest = x / byte_values % byte_values ∷ x % byte_values ∷ rest

-- the number of 16 bits at place i
abbrev pub word_at : List ℕ → ℕ → ℕ
word_at s i = get_or s i 0 * byte_values + get_or s (i + 1) 0

-- an object's entry, before what follows
abbrev pub entry_then : Obj → List ℕ → List ℕ
entry_then o rest = word_then o.name (word_then o.at (word_then o.len rest))

-- the object that the entry at place i tells of
abbrev pub entry_at : List ℕ → ℕ → Obj
entry_at s i = record { name = word_at s i; at = word_at s (i + 2); len = word_at s (i + 4) }

-- the entries of a list
unfoldable pub body_of : List Obj → List ℕ
body_of [] = []
body_of (o ∷ os) = entry_then o (body_of os)

-- what n entries from place i on tell of
unfoldable pub entries_from : ℕ → List ℕ → ℕ → List Obj
entries_from zero s i = []
entries_from (suc n) s i = entry_at s i ∷ entries_from n s (i + entry_size)
