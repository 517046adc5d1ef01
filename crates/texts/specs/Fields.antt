-- Numbers in a line: a number with the byte behind it, and a text put into a buffer that has room for it.
use Rattle.std.specs.Prelude.{◌≡◌, ℕ, ◌+◌, List, [], ◌∷◌, ◌++◌, length, take, drop}
use Rattle.texts.specs.Numbers.{decimal}

-- the byte between two words
abbrev pub blank : ℕ
blank = 32

-- the byte that ends a line
abbrev pub line_feed : ℕ
line_feed = 10

-- a number, and the byte behind it
abbrev pub field : ℕ → ℕ → List ℕ
field n by = decimal n ++ (by ∷ [])

-- numbers as a line: a blank between two of them, a line feed behind the last
abbrev pub number_line : List ℕ → List ℕ
number_line [] = []
number_line (n ∷ []) = field n line_feed
number_line (n ∷ m ∷ ns) = field n blank ++ number_line (m ∷ ns)

-- the buffer has the text from a place to `next`, and is as it was before and behind it
pub record Fronted (out : List ℕ) (at : ℕ) (text : List ℕ) (next : ℕ) (after : List ℕ) : Type 0 where
  pub ends : next ≡ at + length text
  pub front : take next after ≡ take at out ++ text
  pub behind : drop next after ≡ drop next out
  pub as_long : length after ≡ length out
