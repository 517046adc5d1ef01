-- What a store tells, by the rules: what was asked for, or the refusal; and the number and values that it says.
use Rattle.std.specs.Prelude.{ℕ, Bool, false, cond, Result, Ok, Err}
use Rattle.rules.specs.House.{share}
use Rattle.rules.specs.Stores.{Store, list_now}
use Rattle.rules.specs.Answers.{number_of, accepted}
use Rattle.rules.specs.Calls.{find_answer, ask_answer, is_due}
use Rattle.rules.specs.declared.Answer.{Answer}
use Rattle.maps.specs.Finding.{Found, seek}

-- a number asked for, or why not
abbrev pub Told : Type 0
Told = Result ℕ Answer

-- whether a checkpoint is due, or why that is not told
abbrev pub Checkpoint : Type 0
Checkpoint = Result Bool Answer

-- FIND: the object at its place now, or the refusal
unfoldable pub find_told : Store → ℕ → Found
find_told s n = cond (accepted (find_answer s n)) (seek (list_now share s) n) (Err (find_answer s n))

-- a number asked for, or the refusal
abbrev pub told_of : Store → ℕ → Told
told_of s amount = cond (accepted (ask_answer s)) (Ok amount) (Err (ask_answer s))

-- whether a checkpoint is due, or the refusal
abbrev pub checkpoint_of : Store → Checkpoint
checkpoint_of s = cond (accepted (ask_answer s)) (Ok (is_due s)) (Err (ask_answer s))

-- the number and value that an answer says: 0 and the amount, or the number of the refusal and 0
abbrev pub told_says : Told → ℕ × ℕ
told_says (Ok n) = (0, n)
told_says (Err a) = (number_of a, 0)

-- the number that an answer on a checkpoint says, and whether one is due: for a refusal its number, and false
abbrev pub checkpoint_says : Checkpoint → ℕ × Bool
checkpoint_says (Ok due) = (0, due)
checkpoint_says (Err a) = (number_of a, false)
