-- Numbers as a machine holds them: bytes, and words of 16 bits.
use Rattle.std.specs.Prelude.{ℕ}

-- how many values a byte has
abbrev pub byte_values : ℕ
byte_values = 256

-- how many values a number of 16 bits has
abbrev pub word_values : ℕ
word_values = 65536
