-- Numbers read from digits.
use mathlib.Core.Path.{◌≡◌}
use mathlib.Core.Bool.{true, false}
use mathlib.Core.List.{List}
use Prim.Native.Nat.{ℕ, suc, ◌+◌, ◌-◌, ◌*◌, ◌^◌, ◌≤◌, ◌<◌}
use native.Mathlib.Numerals.{add-one}
use native.Mathlib.Nat.{pow-suc, pow-le-pow_right}
use native.Mathlib.Omega.{arith}
use borrow.Author.Tests.{le-leb}
use lib.ListN.{length, get_or, drop, drop_of_length-le}
use lib.Seq.{drop-cons}
use Rattle.texts.specs.Numbers.{is_digit, spelled, most_digits, number_of}
use Rattle.std.specs.Prelude.{Some, None}

-- a word of the right length is what it spells; of another it is no number
pub number_spelled : (k : ℕ) (w : List ℕ) → 1 ≤ length w → length w ≤ k → length w ≤ most_digits → number_of k w ≡ spelled 0 w
number_spelled k w a b c = rw (le-leb 1 (length w) a, le-leb (length w) k b, le-leb (length w) most_digits c)

-- a digit is below ten
pub digit_below : (b : ℕ) → is_digit b ≡ true → b - 48 < 10
digit_below b e = grind arith

-- what is spelled so far, before place i: with the rest it spells the whole, and it has at most i digits
pub record Spelling (w : List ℕ) (n i : ℕ) : Type 0 where
  pub within : i ≤ length w
  pub short : length w ≤ most_digits
  pub small : n < 10 ^ i
  pub whole : spelled n (drop i w) ≡ spelled 0 w

module _ {w : List ℕ} {n i : ℕ} (s : Spelling w n i) where
  -- there is room for one more digit
  pub spell_room : i < length w → n * 10 + 10 ≤ 1000000000
  spell_room h = omega (arith, s.small, s.short, pow-suc 10 i, pow-le-pow_right {n = 10} (omega arith) {i = suc i} {j = 9} (omega (arith, s.short)))

  -- a byte that is no digit
  pub spell_not : i < length w → is_digit (get_or w i 0) ≡ false → None ≡ spelled 0 w
  unfolding spelled
  spell_not h other = rw (drop-cons w i 0 h, other) at s.whole

  -- one digit more
  pub spell_on : i < length w → is_digit (get_or w i 0) ≡ true → (d : ℕ) → d ≡ get_or w i 0 - 48 → Spelling w (n * 10 + d) (i + 1)
  unfolding spelled
  spell_on h digit d e =
      record {
        within = omega arith;
        short = s.short;
        small = rw (add-one i, pow-suc 10 i) (omega (arith, s.small, digit_below (get_or w i 0) digit));
        whole = rw (e, add-one i) (rw (drop-cons w i 0 h, digit) at s.whole);
      }

  -- the whole word
  pub spell_end : length w ≤ i → Some n ≡ spelled 0 w
  unfolding spelled
  spell_end h = rw (drop_of_length-le w h) at s.whole
