-- Bytes cut into parts: a line into words at its blanks, an input into lines at its line feeds.
use Rattle.std.specs.Prelude.{ℕ, ◌+◌, cond, List, [], ◌∷◌, length, drop, eqb}
pub use Rattle.texts.specs.Fields.{blank, line_feed}

-- the bytes before the first `by`
unfoldable pub first_part : ℕ → List ℕ → List ℕ
first_part by [] = []
first_part by (b ∷ bs) = let part = first_part by bs in cond (eqb b by) [] (b ∷ part)

-- a byte put before the first of some parts
abbrev pub onto : ℕ → List (List ℕ) → List (List ℕ)
onto b [] = (b ∷ []) ∷ []
onto b (p ∷ ps) = (b ∷ p) ∷ ps

-- the parts of some bytes, cut at each `by`: one more than there are cuts
unfoldable pub parted : ℕ → List ℕ → List (List ℕ)
parted by [] = [] ∷ []
parted by (b ∷ bs) = let ps = parted by bs in cond (eqb b by) ([] ∷ ps) (onto b ps)

-- the place where the part that starts at place i ends: that of the next `by`, or the end
abbrev pub part_end : ℕ → List ℕ → ℕ → ℕ
part_end by bs i = i + length (first_part by (drop i bs))
