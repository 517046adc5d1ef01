-- The answer lines of `drill`.
use Rattle.std.specs.Prelude.{ℕ, cond, List, [], ◌∷◌, ◌++◌, length, take, eqb}
use Rattle.texts.specs.Numbers.{hex_of}
use Rattle.texts.specs.Fields.{field}
use Rattle.lines.specs.Parts.{blank, line_feed}
use Rattle.replies.specs.declared.Reply.{Reply}
use Rattle.replies.specs.declared.Reply.TheVariants.{One, Three, Bytes, Bad}

-- what a request is answered: a number, three, or a number and bytes; or that it is none
pub data Said : Type 0 where
  one : ℕ → Said
  three : ℕ → ℕ → ℕ → Said
  shown : ℕ → List ℕ → Said
  bad : Said

-- bytes as a word: in hexadecimal, or a dash where there are none
abbrev pub hex_word : List ℕ → List ℕ
hex_word bytes = cond (eqb (length bytes) 0) (45 ∷ []) (hex_of bytes)

-- the line of what is said
abbrev pub line_of : Said → List ℕ
line_of (one a) = field a line_feed
line_of (three a b c) = field a blank ++ (field b blank ++ field c line_feed)
line_of (shown a bytes) = field a blank ++ (hex_word bytes ++ (line_feed ∷ []))
line_of bad = 98 ∷ 97 ∷ 100 ∷ line_feed ∷ []

-- a reply, with the bytes of the buffer that it shows
abbrev pub said_in : Reply → List ℕ → Said
said_in (One a) buf = one a
said_in (Three a b c) buf = three a b c
said_in (Bytes a n) buf = shown a (take n buf)
said_in Bad buf = bad
