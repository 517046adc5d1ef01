-- A reader: what bytes open to, what it answers, and what a list answers.
use Rattle.std.specs.Prelude.{ℕ, cond, List, eqb, Err}
use Rattle.std.specs.Borrow.{Bor}
use Rattle.rules.specs.Classes.{Obj}
use Rattle.rules.specs.declared.Answer.TheVariants.{NameZero}
use Rattle.mapform.specs.Maps.{map_as}
use Rattle.mapform.specs.Reading.{count_of, seen_in}
use Rattle.maps.specs.Finding.{Found, seek, find_in}
use Rattle.readers.specs.declared.Reader.{Reader}

-- what a list answers to a name
abbrev pub look_up : List Obj → ℕ → Found
look_up os x = cond (eqb x 0) (Err NameZero) (seek os x)

-- the very bytes lent, and how many entries they show: none in a map that is refused
abbrev pub opened : ℕ → Bor (List ℕ) → Reader
opened a b = record { bytes = b; count = count_of a b.now }

-- what a reader answers to a name
abbrev pub found_by : Reader → ℕ → Found
found_by r x = find_in r.bytes.now r.count x

-- the map of what a reader sees
abbrev pub map_by : Reader → List ℕ
map_by r = map_as (seen_in r.bytes.now r.count)
