-- The area's length that a program's words ask for.
use Rattle.std.specs.Prelude.{ℕ, cond, List, ltb, Option, Some, None}
use Rattle.rules.specs.House.{most_area}
use Rattle.texts.specs.Numbers.{long_digits, number_of}

-- what a program's words ask for: the longest area if there is no second word, its number if it is the last; none for its usage
abbrev pub asked_of : ℕ → List ℕ → Option ℕ
asked_of words word = cond (ltb words 2) (Some most_area) (cond (ltb 2 words) None (number_of long_digits word))
