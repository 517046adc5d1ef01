-- A column that keeps its entries below a class and has zeros behind them, as a fill leaves it, is the column by classes.
use mathlib.Core.Path.{◌≡◌, refl, sym, ◌∙◌}
use mathlib.Core.Bool.{true, false, cond}
use mathlib.Core.List.{List, ◌++◌}
use Prim.Native.Nat.{ℕ, suc, ◌+◌, ◌-◌, ◌≤◌, ◌<◌}
use native.Mathlib.Omega.{arith}
use lib.Dec.{ltb}
use lib.ListN.{length, get_or, take, drop, replicate, get_or-append, get_or-replicate, length-append, length-drop, length-replicate}
use lib.Seq.{get_or-take, get_or-append-add, length-take-le, ext_get_or}
use borrow.Author.Tests.{ltb-true, ltb-false}
use Rattle.rules.specs.House.{classes}
use Rattle.rules.specs.Regions.{col, column}
use Rattle.rules.proofs.Tables.{column_at}
use Rattle.layout.proofs.Fills.{table_length}

-- as many as are filled
pub rest_length : (xs : List ℕ) (b : ℕ) → length (take (length xs - b) (drop b xs)) ≡ length xs - b
rest_length xs b = length-take-le (length xs - b) (drop b xs) (omega (arith, length-drop b xs))

module _ (xs : List ℕ) (b : ℕ) (within : b ≤ classes) (whole : length xs ≡ suc classes) where
  -- as a fill of the rest with zeros leaves it
  abbrev left : List ℕ
  left = take b xs ++ (replicate (length xs - b) 0 ++ drop (length xs - b) (drop b xs))

  left_length : length left ≡ suc classes
  left_length = omega (
    arith,
    length-append (take b xs) (replicate (length xs - b) 0 ++ drop (length xs - b) (drop b xs)),
    length-append (replicate (length xs - b) 0) (drop (length xs - b) (drop b xs)),
    length-replicate {A = ℕ} (length xs - b) 0,
    length-take-le b xs (omega arith),
    length-drop b xs,
    length-drop (length xs - b) (drop b xs),
  )

  kept : (k : ℕ) → k < b → get_or left k 0 ≡ get_or xs k 0
  kept k l =
      get_or-append (take b xs) (replicate (length xs - b) 0 ++ drop (length xs - b) (drop b xs)) 0 k (omega (arith, length-take-le b xs (omega arith)))
      ∙ get_or-take b xs k 0 l

  behind : (k : ℕ) → b + k < suc classes → get_or left (b + k) 0 ≡ 0
  behind k l =
      let rest = replicate (length xs - b) 0 ++ drop (length xs - b) (drop b xs) in
      let e : length (take b xs) ≡ b = length-take-le b xs (omega arith) in
      (rw e at (get_or-append-add (take b xs) rest k 0))
      ∙ get_or-append (replicate (length xs - b) 0) (drop (length xs - b) (drop b xs)) 0 k (omega (arith, length-replicate {A = ℕ} (length xs - b) 0))
      ∙ get_or-replicate (length xs - b) k 0 0 (omega arith)

  entry : (k : ℕ) → k < suc classes → get_or left k 0 ≡ cond (ltb k b) (col xs k) 0
  entry k h = (elim (ltb k b) as (λ t. ltb k b ≡ t → get_or left k 0 ≡ cond t (col xs k) 0) [
    | true ↦ λ e. kept k (ltb-true k b e)
    | false ↦ λ e.
        let l : b ≤ k = ltb-false k b e in
        let s : b + (k - b) ≡ k = omega arith in
        rw s at (behind (k - b) (omega arith))
  ]) refl

  pub emptied_column : left ≡ column (λ i. cond (ltb i b) (col xs i) 0)
  emptied_column = ext_get_or 0 left (column (λ i. cond (ltb i b) (col xs i) 0)) (left_length ∙ sym (table_length _ 0 (suc classes)))
      (λ k h. let m : k < suc classes = omega (arith, left_length) in
      entry k m ∙ sym (column_at (λ i. cond (ltb i b) (col xs i) 0) k (omega arith)))
