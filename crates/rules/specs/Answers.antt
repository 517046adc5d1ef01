-- The answers: their numbers, and the first test that applies.
use Rattle.std.specs.Prelude.{ℕ, Bool, cond, ◌||◌, List, [], ◌∷◌, eqb}
use Rattle.rules.specs.declared.Answer.{Answer}
use Rattle.rules.specs.declared.Answer.TheVariants.{Done, Running, Unsound, WrongArea, Busy, NameZero, BadLength, NameHeld, NotHeld, Full}
use Rattle.rules.specs.declared.Answer.TheVariants.{OverQuota, CheckpointDue, ShortBuffer, NoMap, BadVersion, BadSize, BadEntry}

-- the number of an answer
abbrev pub number_of : Answer → ℕ
number_of Done = 0
number_of Running = 20
number_of Unsound = 15
number_of WrongArea = 1
number_of Busy = 2
number_of NameZero = 3
number_of BadLength = 4
number_of NameHeld = 5
number_of NotHeld = 6
number_of Full = 7
number_of OverQuota = 8
number_of CheckpointDue = 9
number_of ShortBuffer = 10
number_of NoMap = 11
number_of BadVersion = 12
number_of BadSize = 13
number_of BadEntry = 14

-- the call is accepted
abbrev pub accepted : Answer → Bool
accepted a = eqb (number_of a) 0 || eqb (number_of a) 20

-- a test, and the answer it gives where it applies
pub record Test : Type 0 where
  pub applies : Bool
  pub gives : Answer

-- the answer of the first test that applies, or Done
unfoldable pub first : List Test → Answer
first [] = Done
first (t ∷ ts) = let later = first ts in cond t.applies t.gives later
