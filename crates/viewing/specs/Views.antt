-- The view of a map: a line with its answer and its count, then a line for each object.
use Rattle.std.specs.Prelude.{ℕ, ◌*◌, List, [], ◌∷◌, ◌++◌}
use Rattle.rules.specs.Classes.{Obj}
use Rattle.rules.specs.Answers.{number_of}
use Rattle.mapform.specs.Reading.{map_answer, count_of, list_of}
use Rattle.texts.specs.Fields.{field}

-- the line of an answer's number and a count: a blank between them, a line feed behind
abbrev pub head_text : ℕ → ℕ → List ℕ
head_text answer count = field answer 32 ++ field count 10

-- an object's line: name, address and length
abbrev pub row_text : Obj → List ℕ
row_text o = field o.name 32 ++ (field o.at 32 ++ field o.len 10)

-- the lines of a list
unfoldable pub rows_text : List Obj → List ℕ
rows_text [] = []
rows_text (o ∷ os) = row_text o ++ rows_text os

-- the view of bytes as a map, for an area of length a
abbrev pub view_text : ℕ → List ℕ → List ℕ
view_text a s = head_text (number_of (map_answer a s)) (count_of a s) ++ rows_text (list_of a s)

-- the room for a number of 16 bits and a byte
abbrev pub field_room : ℕ
field_room = 6

-- the room for the head
abbrev pub head_room : ℕ
head_room = 2 * field_room

-- the room for a row
abbrev pub row_room : ℕ
row_room = 3 * field_room
