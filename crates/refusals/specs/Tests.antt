-- The tests of an insert that come once the store is known to rest; and what an answer comes to where a call goes on once it is done.
use Rattle.std.specs.Prelude.{ℕ, ◌+◌, ◌||◌, List, [], ◌∷◌, length, leb, ltb, eqb, Result, Ok, Err}
use Rattle.rules.specs.House.{share, longest, most_objects, quota_of}
use Rattle.rules.specs.Classes.{volume}
use Rattle.rules.specs.Stores.{Store, held_by}
use Rattle.rules.specs.Answers.{Test}
use Rattle.rules.specs.Calls.{test, held}
use Rattle.rules.specs.declared.Answer.{Answer}
use Rattle.state.specs.declared.State.{State}
use Rattle.state.specs.declared.Checked.{Checked}
use Rattle.rules.specs.declared.Answer.TheVariants.{Done, NameZero, BadLength, NameHeld, Full, OverQuota}

-- the tests of a name and a page to be stored
abbrev pub page_tests : Store → ℕ → List ℕ → List Test
page_tests s n page =
    test (eqb n 0) NameZero
    ∷ test (eqb (length page) 0 || ltb longest (length page)) BadLength
    ∷ test (held s n) NameHeld
    ∷ test (leb most_objects (length (held_by s))) Full
    ∷ test (ltb (quota_of share longest s.area) (volume (held_by s) + length page)) OverQuota
    ∷ []

-- a call goes on with the value where the answer is done, and any other refuses it
abbrev pub passed : State → Answer → Result State Answer
passed s Done = Ok s
passed s a = Err a

-- the value that a test hands on, or its refusal
abbrev pub handed : Result Checked Answer → Result State Answer
handed (Ok c) = Ok c.state
handed (Err a) = Err a
