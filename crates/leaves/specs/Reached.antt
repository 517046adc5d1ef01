-- What one turn of the search for the boundary finds.
use Rattle.std.specs.Prelude.{ℕ, zero, suc, cond, List}
use Rattle.rules.specs.Regions.{col, up_from}
use Rattle.rules.specs.Boundary.{reaches}

-- the lower class that the first of the m buffers from j on reaches, or k where none reaches below k
unfoldable pub reached_from : List ℕ → List ℕ → ℕ → ℕ → ℕ → ℕ
reached_from useds lowests k j zero = k
reached_from useds lowests k j (suc m) =
    let next = reached_from useds lowests k (suc j) m in
    cond (reaches useds lowests k j) (col lowests j) next

-- the lower class from which the search of the boundary begins again, or k where class k is clean
abbrev pub lower_reached : List ℕ → List ℕ → ℕ → ℕ
lower_reached useds lowests k = reached_from useds lowests k k (up_from k)
