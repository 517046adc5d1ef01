-- The map of a list, and a lent buffer that takes it.
use Rattle.std.specs.Prelude.{ℕ, cond, List, ◌∷◌, ◌++◌, leb, length, drop}
use Rattle.rules.specs.Classes.{Obj, by_name}
use Rattle.rules.specs.House.{most_objects}
use Rattle.rules.specs.Columns.{listed}
use Rattle.rules.specs.declared.Answer.{Answer}
use Rattle.rules.specs.declared.Answer.TheVariants.{Done, ShortBuffer}
use Rattle.mapform.specs.Entries.{version, word_then, body_of}

-- mark, version and count, before what follows
abbrev pub head_then : ℕ → List ℕ → List ℕ
head_then n rest = 82 ∷ 76 ∷ 77 ∷ word_then version (word_then n rest)

-- the map whose entries stand as the list does
abbrev pub map_as : List Obj → List ℕ
map_as os = head_then (length os) (body_of os)

-- the map of a list
abbrev pub map_of : List Obj → List ℕ
map_of os = map_as (by_name os)

-- the answer to a map that is to be put into a buffer
abbrev pub put_answer : List ℕ → List ℕ → Answer
put_answer m buf = cond (leb (length m) (length buf)) Done ShortBuffer

-- the buffer afterwards: the map at its front, or, where that has no room, the same bytes
abbrev pub put_into : List ℕ → List ℕ → List ℕ
put_into m buf = cond (leb (length m) (length buf)) (m ++ drop (length m) buf) buf

-- the lesser of two numbers
abbrev pub least : ℕ → ℕ → ℕ
least a b = cond (leb a b) a b

-- how many objects are taken of columns of the lengths a, b and c: the count, at most 256 and as far as all three reach
abbrev pub reach : ℕ → ℕ → ℕ → ℕ → ℕ
reach count a b c = least count (least most_objects (least a (least b c)))

-- the objects that columns and a count tell of
abbrev pub objects_in : List ℕ → List ℕ → List ℕ → ℕ → List Obj
objects_in ns ps ls count = listed ns ps ls 0 (reach count (length ns) (length ps) (length ls))
