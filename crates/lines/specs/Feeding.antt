-- The lines of an input, and how they come of its pieces by way of a line buffer.
use Rattle.std.specs.Prelude.{ℕ, zero, suc, ◌+◌, ◌-◌, min, Bool, cond, List, [], ◌∷◌, ◌++◌, length, take, drop, ltb, eqb}
use Rattle.std.proofs.Math.Seq.{paste}
use Rattle.lines.specs.Parts.{line_feed, first_part, parted, part_end}
use Rattle.lines.specs.declared.Fed.{Fed}

-- parts without a last one that is empty
unfoldable pub shed : List (List ℕ) → List (List ℕ)
shed [] = []
shed (p ∷ []) = cond (eqb (length p) 0) [] (p ∷ [])
shed (p ∷ q ∷ ps) = p ∷ shed (q ∷ ps)

-- the lines of an input: each ends at a line feed, the last one perhaps at the end
abbrev pub lines_of : List ℕ → List (List ℕ)
lines_of input = shed (parted line_feed input)

-- the bytes of the present line that a piece has from a place on
abbrev pub part_from : List ℕ → ℕ → List ℕ
part_from piece from = first_part line_feed (drop from piece)

-- how many of some bytes go into a buffer of `room` bytes that holds len: what does not fit is passed over
abbrev pub kept_of : ℕ → ℕ → ℕ → ℕ
kept_of room len size = min size (room - len)

-- a line feed ends the part at that place
abbrev pub feed_at : List ℕ → ℕ → Bool
feed_at piece from = ltb (part_end line_feed piece from) (length piece)

-- what a call answers: the next place in the piece, how much of the line is held, and whether it is complete
abbrev pub fed_of : List ℕ → ℕ → ℕ → ℕ → Fed
fed_of piece from room len =
    record {
      next = part_end line_feed piece from + cond (feed_at piece from) 1 0;
      len = len + kept_of room len (length (part_from piece from));
      done = feed_at piece from;
    }

-- the line buffer afterwards
abbrev pub held_of : List ℕ → ℕ → List ℕ → ℕ → List ℕ
held_of piece from line len = paste line len (part_from piece from) (kept_of (length line) len (length (part_from piece from)))

-- what calls have brought: complete lines, the line buffer, and how much it holds of the line begun
pub record Brought : Type 0 where
  pub lines : List (List ℕ)
  pub line : List ℕ
  pub len : ℕ

-- at most n calls on a piece from a place on: each complete line is taken, and the next one begins
unfoldable pub brought_by : ℕ → List ℕ → ℕ → List ℕ → ℕ → Brought
brought_by zero piece from line len = record { lines = []; line = line; len = len }
brought_by (suc n) piece from line len =
    let held = held_of piece from line len in
    let fed = fed_of piece from (length line) len in
    let later = brought_by n piece fed.next held 0 in
    cond fed.done
    (record { lines = take fed.len held ∷ later.lines; line = later.line; len = later.len })
    (record { lines = []; line = held; len = fed.len })

-- the input whose pieces these are
unfoldable pub input_of : List (List ℕ) → List ℕ
input_of [] = []
input_of (p ∷ ps) = p ++ input_of ps

-- the lines that come of an input's pieces: at the end what the buffer holds is a line, if it holds a byte
unfoldable pub lines_from : List (List ℕ) → List ℕ → ℕ → List (List ℕ)
lines_from [] line len = shed (take len line ∷ [])
lines_from (p ∷ ps) line len =
    let b = brought_by (suc (length p)) p 0 line len in
    b.lines ++ lines_from ps b.line b.len
