-- The part of a buffer that is lent from its start on: of the lesser of the length asked for and the buffer's; and of a buffer of one byte.
use mathlib.Core.Path.{◌≡◌, refl, sym, ap, ◌∙◌}
use mathlib.Core.Bool.{true, false}
use mathlib.Core.List.{List, ◌∷◌}
use Prim.Native.Nat.{ℕ, zero, suc, ◌≤◌, min}
use native.Mathlib.Nat.{le_of_suc-le-suc, min-eq_left, min-eq_right}
use native.Mathlib.Omega.{arith}
use borrow.Author.Tests.{leb-true, leb-false}
use lib.Dec.{leb}
use lib.ListN.{length, take, drop, replicate, drop_of_length-le}
use lib.Seq.{take_all, take-length, drop-length}

-- the first `lent` bytes of an area, or all of it where it has fewer, and what lies behind them
pub part_lent : (area : List ℕ) (lent n : ℕ) → n ≡ min lent (length area) → (take n area ≡ take lent area) × (drop n area ≡ drop lent area)
part_lent area lent n e =
    (elim (leb lent (length area)) as (λ b. leb lent (length area) ≡ b → (take n area ≡ take lent area) × (drop n area ≡ drop lent area)) [
      | true ↦ λ t. let same : n ≡ lent = e ∙ min-eq_left (leb-true lent (length area) t) in (ap (λ k. take k area) same, ap (λ k. drop k area) same)
      | false ↦ λ t.
          let short : length area ≤ lent = omega (arith, leb-false lent (length area) t) in
          let same : n ≡ length area = e ∙ min-eq_right short in (
            ap (λ k. take k area) same ∙ take-length area ∙ sym (take_all lent area short),
            ap (λ k. drop k area) same ∙ drop-length area ∙ sym (drop_of_length-le area short),
          )
    ]) refl

-- the first bytes of a buffer of one byte
pub take_same : (k n byte : ℕ) → k ≤ n → take k (replicate n byte) ≡ replicate k byte
take_same zero n byte h = refl
take_same (suc k) zero byte h = absurd (omega arith)
take_same (suc k) (suc n) byte h = ap (λ (xs : List ℕ). byte ∷ xs) (take_same k n byte (le_of_suc-le-suc h))
