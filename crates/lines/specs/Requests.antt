-- What a line asks of `replay` and of `drill`: a letter and numbers, parted by single blanks.
use Rattle.std.specs.Prelude.{ℕ, cond, ◌&&◌, List, [], ◌∷◌, eqb, leb, Option, Some, None}
use Rattle.std.specs.Option.{option_and_then}
use Rattle.rules.specs.House.{most_area, most_name}
use Rattle.lines.specs.Parts.{blank, first_part, parted}
use Rattle.texts.specs.Numbers.{short_digits, long_digits, number_of}
use Rattle.lines.specs.declared.Numbers.{Numbers}
use Rattle.lines.specs.declared.Numbers.TheVariants.{Zero, One, Three}
use Rattle.lines.specs.declared.Request.{Request}
use Rattle.lines.specs.declared.Request.TheVariants.{Insert as ToInsert, Delete as ToDelete}
use Rattle.lines.specs.declared.Drill.{Drill}
use Rattle.lines.specs.declared.Drill.TheVariants.{Open, Lend, Insert, Delete, Step, Confirm, Find, Read, Sum}

-- the letter that a word is
abbrev pub letter_of : List ℕ → Option ℕ
letter_of [] = None
letter_of (b ∷ []) = Some b
letter_of (b ∷ c ∷ bs) = None

-- one number, if it is one
abbrev pub one : Option ℕ → Option Numbers
one (Some n) = Some (One n)
one None = None

-- three numbers, if each is one
abbrev pub three : Option ℕ → Option ℕ → Option ℕ → Option Numbers
three (Some x) (Some y) (Some z) = Some (Three x y z)
three (Some x) (Some y) None = None
three (Some x) None v = None
three None u v = None

-- a first number and two more words of 1 to k digits
abbrev pub two_more : ℕ → Option ℕ → List (List ℕ) → Option Numbers
two_more k v [] = one v
two_more k v (a ∷ []) = None
two_more k v (a ∷ b ∷ []) = three v (number_of k a) (number_of k b)
two_more k v (a ∷ b ∷ w ∷ ws) = None

-- the numbers of 1 to k digits behind the first of some words: none, one or three
abbrev pub numbers_of : ℕ → List (List ℕ) → Option Numbers
numbers_of k [] = None
numbers_of k (w ∷ []) = Some Zero
numbers_of k (w ∷ a ∷ ws) = two_more k (number_of k a) ws

-- the greatest length that a line may give
abbrev pub most_length : ℕ
most_length = 65535

-- the longest buffer that a line of `drill` may lend a confirmation
abbrev pub most_room : ℕ
most_room = 4096

-- what a letter and numbers ask of `replay`: I name length byte, D name
abbrev pub asked_of : ℕ → Option Numbers → Option Request
asked_of l (Some Zero) = None
asked_of l (Some (One n)) = cond (eqb l 68 && leb n most_name) (Some (ToDelete n)) None
asked_of l (Some (Three n m b)) =
    cond (eqb l 73 && (leb n most_name && (leb m most_length && leb b 255))) (Some (ToInsert n m b)) None
asked_of l None = None

-- what a line of `replay` asks
abbrev pub request_of : List ℕ → Option Request
request_of line = option_and_then (λ l. asked_of l (numbers_of short_digits (parted blank line))) (letter_of (first_part blank line))

-- a call whose number is at most the limit
abbrev pub up_to : ℕ → ℕ → Option Drill → Option Drill
up_to limit n call = cond (leb n limit) call None

-- the call of a letter alone: S, A
abbrev pub alone : ℕ → Option Drill
alone l = cond (eqb l 83) (Some Step) (cond (eqb l 65) (Some Sum) None)

-- the call of a letter and a name: D, F, R
abbrev pub named : ℕ → ℕ → Option Drill
named l n =
    up_to most_name n (cond (eqb l 68) (Some (Delete n)) (cond (eqb l 70) (Some (Find n)) (cond (eqb l 82) (Some (Read n)) None)))

-- the call of a letter and a number: O, L, C, or a name's
abbrev pub numbered : ℕ → ℕ → Option Drill
numbered l n =
    cond (eqb l 79) (Some (Open n))
    (cond (eqb l 76) (up_to most_area n (Some (Lend n))) (cond (eqb l 67) (up_to most_room n (Some (Confirm n))) (named l n)))

-- an insertion is the same in both programs
abbrev pub inserting_of : Option Request → Option Drill
inserting_of (Some (ToInsert n m b)) = Some (Insert n m b)
inserting_of (Some (ToDelete n)) = None
inserting_of None = None

-- what a letter and numbers ask of `drill`: a call, or I name length byte
abbrev pub called_of : ℕ → Option Numbers → Option Drill
called_of l (Some Zero) = alone l
called_of l (Some (One n)) = numbered l n
called_of l (Some (Three n m b)) = inserting_of (asked_of l (Some (Three n m b)))
called_of l None = None

-- what a line of `drill` asks
abbrev pub drill_of : List ℕ → Option Drill
drill_of line = option_and_then (λ l. called_of l (numbers_of long_digits (parted blank line))) (letter_of (first_part blank line))
