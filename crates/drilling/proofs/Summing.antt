-- The loops over bytes: a sum of which a part is yet to come.
use mathlib.Core.Path.{◌≡◌, sym, ap, ◌∙◌}
use mathlib.Core.List.{List, []}
use Prim.Native.Nat.{ℕ, ◌+◌, ◌*◌, ◌≤◌, ◌<◌}
use native.Mathlib.Numerals.{add-one}
use native.Mathlib.Nat.{mul-le-mul}
use native.Mathlib.Omega.{arith}
use lib.ListN.{length, get_or, drop, drop_of_length-le}
use lib.Seq.{drop-cons}
use Rattle.rules.specs.House.{most_area}
use Rattle.rules.specs.Words.{byte_values}
use Rattle.desks.specs.Desks.{weight_from}

-- what a place adds to a weight
pub term_small : (i b : ℕ) → i ≤ most_area → b < byte_values → i * b ≤ most_area * 255
term_small i b p q = mul-le-mul {m₂ = 255} p (omega arith)

-- total is the sum of the first i places of len, each of which adds at most `most`; `rest` is what is yet to come from a place on
pub record Summing (rest : ℕ → ℕ) (most len total i : ℕ) : Type 0 where
  pub within : i ≤ len
  pub whole : total + rest i ≡ rest 0
  pub small : total ≤ most * i

pub sum_start : (rest : ℕ → ℕ) (most len : ℕ) → Summing rest most len 0 0
sum_start rest most len = record { within = omega arith; whole = omega arith; small = omega arith }

pub sum_on : {rest : ℕ → ℕ} {most len total i : ℕ} → Summing rest most len total i → i < len → (term : ℕ) → rest i ≡ term + rest (i + 1)
    → term ≤ most → Summing rest most len (total + term) (i + 1)
sum_on {rest} {most} {i = i} s h term e few = record { within = omega arith; whole = omega (arith, s.whole, e); small = omega (arith, s.small) }

pub sum_end : {rest : ℕ → ℕ} {most len total i : ℕ} → Summing rest most len total i → rest i ≡ 0 → total ≡ rest 0
sum_end s e = omega (arith, s.whole, e)

-- behind the last byte nothing is to come, where no bytes come to 0
pub none_left : (of : List ℕ → ℕ) (bs : List ℕ) (i : ℕ) → of [] ≡ 0 → length bs ≤ i → of (drop i bs) ≡ 0
none_left of bs i e h = ap of (drop_of_length-le bs h) ∙ e

-- the weight of bytes from a place on
abbrev pub weight_at : List ℕ → ℕ → ℕ
weight_at bs i = weight_from (i + 1) (drop i bs)

pub weight_next : (bs : List ℕ) (i : ℕ) → i < length bs → weight_at bs i ≡ (i + 1) * get_or bs i 0 + weight_at bs (i + 1)
unfolding weight_from
weight_next bs i h = ap (weight_from (i + 1)) (drop-cons bs i 0 h) ∙ ap (λ k. (i + 1) * get_or bs i 0 + weight_from (i + 1 + 1) (drop k bs)) (sym (add-one i))
