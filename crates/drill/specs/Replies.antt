-- The lines that answer `drill`.
use Rattle.std.specs.Prelude.{ℕ, List, [], ◌∷◌}
use Rattle.lines.specs.Requests.{drill_of}
use Rattle.desks.specs.Desks.{Desk, after}
use Rattle.desks.specs.Served.{answer_to}

-- the line that answers a line that comes after these lines
abbrev pub answer_after : Desk → List (List ℕ) → List ℕ → List ℕ
answer_after d [] line = answer_to d (drill_of line)
answer_after d (first ∷ others) line = answer_after (after d (drill_of first)) others line
