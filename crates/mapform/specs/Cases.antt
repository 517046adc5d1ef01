-- Worked maps and refused bytes as one table: what the definitions compute, beside what is said. map_laws/proofs/Cases.antt covers it by one statement.
use Rattle.std.specs.Prelude.{ℕ, Bool, true, ◌&&◌, List, [], ◌∷◌, ◌++◌, eqb}
use Rattle.rules.specs.Classes.{Obj}
use Rattle.rules.specs.Answers.{number_of}
use Rattle.rules.specs.Sums.{same}
use Rattle.mapform.specs.Entries.{word_then, body_of}
use Rattle.mapform.specs.Maps.{map_of}
use Rattle.mapform.specs.Reading.{map_answer}

-- an object, by its three numbers
abbrev pub obj : ℕ → ℕ → ℕ → Obj
obj n p l = record { name = n; at = p; len = l }

-- bytes for an area, and the number of the answer to them
pub record Case : Type 0 where
  pub area : ℕ
  pub bytes : List ℕ
  pub number : ℕ

-- a case for the least area
abbrev pub case : List ℕ → ℕ → Case
case s n = record { area = 16384; bytes = s; number = n }

-- bytes with the mark, a version, a count and the entries of a list as it stands
abbrev pub marks : ℕ → ℕ → List Obj → List ℕ
marks v n os = 82 ∷ 76 ∷ 77 ∷ word_then v (word_then n (body_of os))

-- bytes with one entry
abbrev pub one : Obj → List ℕ
one o = marks 1 1 (o ∷ [])

-- bytes with two
abbrev pub two : Obj → Obj → List ℕ
two o x = marks 1 2 (o ∷ x ∷ [])

-- two objects, out of order, and their map
unfoldable pub worked_map : Bool
worked_map =
    same (map_of (obj 2 8 2 ∷ obj 1 0 8 ∷ []))
    (82 ∷ 76 ∷ 77 ∷ 0 ∷ 1 ∷ 0 ∷ 2 ∷ 0 ∷ 1 ∷ 0 ∷ 0 ∷ 0 ∷ 8 ∷ 0 ∷ 2 ∷ 0 ∷ 8 ∷ 0 ∷ 2 ∷ [])

-- no object, and its map of seven bytes
unfoldable pub empty_map : Bool
empty_map = same (map_of []) (82 ∷ 76 ∷ 77 ∷ 0 ∷ 1 ∷ 0 ∷ 0 ∷ [])

-- what is accepted, and each refusal, the first that applies
abbrev pub cases : List Case
cases =
    case (marks 1 0 []) 0
    ∷ case (two (obj 1 0 8) (obj 2 8 2)) 0
    ∷ case (one (obj 65535 12289 4095)) 0
    ∷ record { area = 16383; bytes = []; number = 1 }
    ∷ record { area = 65537; bytes = marks 1 0 []; number = 1 }
    ∷ case [] 11
    ∷ case (82 ∷ 76 ∷ 77 ∷ 0 ∷ 1 ∷ 0 ∷ []) 11
    ∷ case (82 ∷ 76 ∷ 78 ∷ 0 ∷ 2 ∷ 0 ∷ 0 ∷ []) 11
    ∷ case (marks 0 0 []) 12
    ∷ case (marks 2 0 []) 12
    ∷ case (marks 65535 257 []) 12
    ∷ case (marks 1 257 []) 13
    ∷ case (marks 1 65535 []) 13
    ∷ case (marks 1 0 [] ++ (0 ∷ [])) 13
    ∷ case (marks 1 2 (obj 1 0 8 ∷ [])) 13
    ∷ case (marks 1 1 (obj 0 0 0 ∷ []) ++ (0 ∷ [])) 13
    ∷ case (one (obj 0 0 8)) 14
    ∷ case (two (obj 3 0 8) (obj 3 8 2)) 14
    ∷ case (two (obj 3 0 8) (obj 2 8 2)) 14
    ∷ case (one (obj 1 0 0)) 14
    ∷ case (one (obj 1 0 4096)) 14
    ∷ case (one (obj 1 0 65535)) 14
    ∷ case (one (obj 1 12290 4095)) 14
    ∷ case (two (obj 1 0 8) (obj 2 7 2)) 14
    ∷ case (two (obj 1 7 2) (obj 2 0 8)) 14
    ∷ []

-- every case comes out as said
unfoldable pub all_numbered : List Case → Bool
all_numbered [] = true
all_numbered (c ∷ cs) = eqb (number_of (map_answer c.area c.bytes)) c.number && all_numbered cs
