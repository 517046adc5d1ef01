-- What the columns hold, and the first index that a test takes.
use Rattle.std.specs.Prelude.{ℕ, zero, suc, ◌-◌, Bool, cond, Option, List, get_or, ltb, eqb, ◌==◌, position}
use Rattle.rules.specs.Classes.{Obj}
use Rattle.rules.specs.Columns.{listed}
use Rattle.edits.specs.declared.Columns.{Columns}

-- an object of this name, place and length
abbrev pub object : ℕ → ℕ → ℕ → Obj
object name at len = record { name = name; at = at; len = len }

-- the objects from index i up to n
abbrev pub between : Columns → ℕ → ℕ → List Obj
between c i n = listed c.names c.places c.lens i (n - i)

-- the first n objects
abbrev pub objects : Columns → ℕ → List Obj
objects c n = listed c.names c.places c.lens 0 n

-- the first of the m indices from i on that the test takes, or i + m
unfoldable pub first_from : (ℕ → Bool) → ℕ → ℕ → ℕ
first_from f i zero = i
first_from f i (suc m) = let next = first_from f (suc i) m in cond (f i) i next

-- the index of the first of n objects with this name, or n
abbrev pub find_in : List ℕ → ℕ → ℕ → ℕ
find_in names n name = first_from (λ k. eqb (get_or names k 0) name) 0 n

-- the index of the first object with this name, if one has it
abbrev pub found_in : List ℕ → ℕ → Option ℕ
found_in names name = position (λ held. held == name) names

-- the index of the first of n objects at a greater place, or n
abbrev pub rank_in : List ℕ → ℕ → ℕ → ℕ
rank_in places n at = first_from (λ k. ltb at (get_or places k 0)) 0 n

-- the index of the first object at a greater place, if one lies there
abbrev pub above_in : List ℕ → ℕ → Option ℕ
above_in places at = position (λ place. ltb at place) places
