-- Numbers as decimal digits and bytes as hexadecimal ones, and the text put into a buffer.
use Rattle.std.specs.Prelude.{ℕ, zero, suc, ◌+◌, ◌-◌, ◌*◌, ◌/◌, ◌%◌, Bool, cond, ◌&&◌, List, [], ◌∷◌, ◌++◌, length, take, drop, leb, ltb, Option, Some, None}

-- the byte is one of the digits 0 to 9
abbrev pub is_digit : ℕ → Bool
is_digit b = leb 48 b && leb b 57

-- the number whose digits are those of n and then these bytes, if each of them is a digit
unfoldable pub spelled : ℕ → List ℕ → Option ℕ
spelled n [] = Some n
spelled n (b ∷ bs) = let whole = spelled (n * 10 + (b - 48)) bs in cond (is_digit b) whole None

-- the most digits that any number may have
abbrev pub most_digits : ℕ
most_digits = 9

-- the most digits of a number in a line of `replay`
abbrev pub short_digits : ℕ
short_digits = 5

-- the most digits of a number in a line of `drill` or a word of `mapview`
abbrev pub long_digits : ℕ
long_digits = 7

-- the number in a word of 1 to `most` digits
abbrev pub number_of : ℕ → List ℕ → Option ℕ
number_of most word =
    cond (leb 1 (length word) && (leb (length word) most && leb (length word) most_digits)) (spelled 0 word) None

-- the last k decimal digits of a number, the first of them first
unfoldable pub last_digits : ℕ → ℕ → List ℕ
last_digits zero n = []
last_digits (suc k) n = last_digits k (n / 10) ++ ((48 + n % 10) ∷ [])

-- how many digits a number has, if not more than k + 1
unfoldable pub width_in : ℕ → ℕ → ℕ
width_in zero n = 1
width_in (suc k) n = let fewer = width_in k (n / 10) in cond (ltb n 10) 1 (suc fewer)

-- the decimal digits of a number of 64 bits, which has 20 at most
abbrev pub decimal : ℕ → List ℕ
decimal n = last_digits (width_in 19 n) n

-- the hexadecimal digit, upper case, of a number below 16
abbrev pub hex_digit : ℕ → ℕ
hex_digit d = cond (ltb d 10) (48 + d) (55 + d)

-- two hexadecimal digits for each byte
unfoldable pub hex_of : List ℕ → List ℕ
hex_of [] = []
hex_of (b ∷ bs) = hex_digit (b / 16) ∷ hex_digit (b % 16) ∷ hex_of bs

-- a text fits into a buffer at a place
abbrev pub text_fits : List ℕ → ℕ → List ℕ → Bool
text_fits out at text = leb (at + length text) (length out)

-- the buffer with the text at the place; as it was where the text does not fit
abbrev pub put_into : List ℕ → ℕ → List ℕ → List ℕ
put_into out at text = cond (text_fits out at text) (take at out ++ (text ++ drop (at + length text) out)) out

-- the place behind the text; the same place where the text does not fit
abbrev pub place_behind : List ℕ → ℕ → List ℕ → ℕ
place_behind out at text = cond (text_fits out at text) (at + length text) at
