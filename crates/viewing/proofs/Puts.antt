-- A number of 16 bits with a byte behind it takes six bytes at most, so a head and a row have room as Views.antt says.
use Prim.Native.Nat.{ℕ, zero, suc, ◌/◌, ◌^◌, ◌≤◌, ◌<◌}
use mathlib.Core.Path.{◌≡◌, refl}
use mathlib.Core.Bool.{Bool, true, false}
use mathlib.Core.List.{[], ◌∷◌, ◌++◌}
use native.Mathlib.Nat.{pow-suc}
use native.Mathlib.Omega.{arith}
use borrow.Author.Tests.{ltb-true, ltb-false}
use lib.Dec.{ltb}
use lib.ListN.{length, length-append}
use Rattle.rules.specs.Words.{word_values}
use Rattle.rules.specs.House.{most_objects}
use Rattle.texts.specs.Numbers.{width_in, decimal}
use Rattle.texts.proofs.Digits.{width_one, width_more, digits_long}
use Rattle.rules.specs.Answers.{number_of}
use Rattle.rules.specs.declared.Answer.{Answer}
use Rattle.rules.specs.declared.Answer.TheVariants.{Done, Running, Unsound, WrongArea, Busy, NameZero, BadLength, NameHeld, NotHeld, Full, OverQuota}
use Rattle.rules.specs.declared.Answer.TheVariants.{CheckpointDue, ShortBuffer, NoMap, BadVersion, BadSize, BadEntry}
use Rattle.texts.specs.Fields.{field}
use Rattle.viewing.specs.Views.{head_text, field_room, head_room, row_room}

-- a number below 10 ^ (k + 1) has at most k + 1 digits
width_within : (k j n : ℕ) → n < 10 ^ suc k → width_in j n ≤ suc k
unfolding width_in
width_within zero j n h = omega (arith, width_one j n (omega (arith, pow-suc 10 0)))
width_within (suc k) j n h = by_test (λ i m l. width_within k i m l) j (ltb n 10) refl
  where
    by_test : ((i m : ℕ) → m < 10 ^ suc k → width_in i m ≤ suc k) → (i : ℕ) (t : Bool) → ltb n 10 ≡ t → width_in i n ≤ suc (suc k)
    by_test ih i true e = omega (arith, width_one i n (ltb-true n 10 e))
    by_test ih zero false e = omega arith
    by_test ih (suc i) false e = omega (arith, width_more i n (ltb-false n 10 e), ih i (n / 10) (omega (arith, pow-suc 10 (suc k))))

decimal_five : (n : ℕ) → n < word_values → length (decimal n) ≤ 5
decimal_five n h = omega (arith, digits_long (width_in 19 n) n, width_within 4 19 n (omega arith))

-- a number and the byte behind it
field_near : (n by : ℕ) → n < word_values → length (field n by) ≤ field_room
field_near n by h = omega (arith, length-append (decimal n) (by ∷ []), decimal_five n h)

-- the number of an answer is small
answer_small : (a : Answer) → number_of a ≤ 20
answer_small Done = omega arith
answer_small Running = omega arith
answer_small Unsound = omega arith
answer_small WrongArea = omega arith
answer_small Busy = omega arith
answer_small NameZero = omega arith
answer_small BadLength = omega arith
answer_small NameHeld = omega arith
answer_small NotHeld = omega arith
answer_small Full = omega arith
answer_small OverQuota = omega arith
answer_small CheckpointDue = omega arith
answer_small ShortBuffer = omega arith
answer_small NoMap = omega arith
answer_small BadVersion = omega arith
answer_small BadSize = omega arith
answer_small BadEntry = omega arith

-- the head: an answer's number and a count
pub head_short : (a : Answer) (count : ℕ) → count ≤ most_objects → length (head_text (number_of a) count) ≤ head_room
head_short a count few =
    omega (
      arith,
      length-append (field (number_of a) 32) (field count 10),
      field_near (number_of a) 32 (omega (arith, answer_small a)),
      field_near count 10 (omega arith),
    )

-- a row: three numbers of 16 bits
pub row_short : (x y z : ℕ) → x < word_values → y < word_values → z < word_values
    → length (field x 32 ++ (field y 32 ++ field z 10)) ≤ row_room
row_short x y z a b c =
    omega (
      arith,
      length-append (field x 32) (field y 32 ++ field z 10),
      length-append (field y 32) (field z 10),
      field_near x 32 a,
      field_near y 32 b,
      field_near z 10 c,
    )
