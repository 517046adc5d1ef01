-- What the contracts of the checks cite beside the rules.
use Rattle.std.specs.Prelude.{ℕ, ◌+◌, List, set}
use Rattle.rules.specs.Classes.{Obj, class_of}
use Rattle.rules.specs.Regions.{col}

-- an object whose place does not matter
abbrev pub called : ℕ → ℕ → Obj
called name len = record { name = name; at = 0; len = len }

-- a length counted to the volume of its class; one of a class beyond the column's end is not counted
abbrev pub counted : List ℕ → ℕ → List ℕ
counted volumes len = set volumes (class_of len) (col volumes (class_of len) + len)
