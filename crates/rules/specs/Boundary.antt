-- The boundary of a flush.
use Rattle.std.specs.Prelude.{ℕ, zero, suc, Bool, cond, not, ◌&&◌, List, ltb}
use Rattle.rules.specs.Regions.{col, every, up_from}

-- buffer j holds an entry or a record of a class below k
abbrev pub reaches : List ℕ → List ℕ → ℕ → ℕ → Bool
reaches useds lowests k j = ltb 0 (col useds j) && ltb (col lowests j) k

-- class k is clean: no buffer numbered k or more reaches below it
unfoldable pub clean : List ℕ → List ℕ → ℕ → Bool
clean useds lowests k = every (λ j. not (reaches useds lowests k j)) k (up_from k)

-- the boundary: the largest clean class at most c; 1 ends the search, since no class lies below it
unfoldable pub boundary_of : List ℕ → List ℕ → ℕ → ℕ
boundary_of useds lowests zero = 1
boundary_of useds lowests (suc c) = let next = boundary_of useds lowests c in cond (clean useds lowests (suc c)) (suc c) next
