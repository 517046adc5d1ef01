-- Objects and their classes.
use Rattle.std.specs.Prelude.{ℕ, zero, suc, ◌+◌, ◌^◌, Bool, cond, List, [], ◌∷◌, leb, ltb, eqb}
use Rattle.rules.specs.House.{classes}

-- the first of the m classes from i on whose lengths end above n: those of class i end before 2^i
unfoldable pub class_from : ℕ → ℕ → ℕ → ℕ
class_from n i zero = i
class_from n i (suc m) = let next = class_from n (suc i) m in cond (ltb n (2 ^ i)) i next

-- the class of a length
unfoldable pub class_of : ℕ → ℕ
class_of n = class_from n 0 (suc classes)

-- a live object
pub record Obj : Type 0 where
  pub name : ℕ
  pub at : ℕ
  pub len : ℕ

-- the class of an object
abbrev pub cls : Obj → ℕ
cls o = class_of o.len

-- the end of an object
abbrev pub end_of : Obj → ℕ
end_of o = o.at + o.len

-- an object at another place
abbrev pub placed : Obj → ℕ → Obj
placed o to = record { name = o.name; at = to; len = o.len }

-- the volume of objects
unfoldable pub volume : List Obj → ℕ
volume [] = 0
volume (o ∷ os) = o.len + volume os

-- V(c): the volume of those of class c
unfoldable pub volume_of : ℕ → List Obj → ℕ
volume_of c [] = 0
volume_of c (o ∷ os) = cond (eqb (cls o) c) o.len 0 + volume_of c os

-- the objects that a test takes
unfoldable pub filter : (Obj → Bool) → List Obj → List Obj
filter f [] = []
filter f (o ∷ os) = let rest = filter f os in cond (f o) (o ∷ rest) rest

-- an object put among others, in front of the first that it comes before
abbrev pub insert_by : (Obj → Obj → Bool) → Obj → List Obj → List Obj
insert_by before o [] = o ∷ []
insert_by before o (x ∷ xs) = let later = x ∷ insert_by before o xs in cond (before o x) (o ∷ x ∷ xs) later

-- objects put in one by one
abbrev pub order_by : (Obj → List Obj → List Obj) → List Obj → List Obj
order_by put [] = []
order_by put (o ∷ os) = put o (order_by put os)

-- in place order an object comes before those that lie above it
abbrev pub place_before : Obj → Obj → Bool
place_before o x = ltb o.at x.at

-- an object put among objects in rising place order
unfoldable pub insert_by_place : Obj → List Obj → List Obj
insert_by_place = insert_by place_before

-- objects in rising place order
unfoldable pub by_place : List Obj → List Obj
by_place = order_by insert_by_place

-- in name order an object comes before those of its name and of greater names
abbrev pub name_before : Obj → Obj → Bool
name_before o x = leb o.name x.name

-- an object put among objects in rising name order
unfoldable pub insert_by_name : Obj → List Obj → List Obj
insert_by_name = insert_by name_before

-- objects in rising name order
unfoldable pub by_name : List Obj → List Obj
by_name = order_by insert_by_name
