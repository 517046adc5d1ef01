-- Objects by index: the objects of indices that follow each other, and what columns list, index by index.
use mathlib.Core.Path.{◌≡◌, refl, sym, ap, ◌∙◌}
use mathlib.Core.Logic.{inl, inr}
use mathlib.Core.List.{List, [], ◌∷◌, ◌++◌}
use Prim.Native.Nat.{ℕ, zero, suc, ◌+◌, ◌≤◌, ◌<◌}
use native.Mathlib.Nat.{suc-add, add-zero, zero-add, eq-or-lt_of_le}
use native.Mathlib.Omega.{arith}
use lib.ListN.{length}
use Rattle.rules.specs.Classes.{Obj}
use Rattle.rules.specs.Columns.{object_at, listed}
use Rattle.rules.proofs.Lists.{All}

-- those at the n indices from i on
unfoldable pub run : (ℕ → Obj) → ℕ → ℕ → List Obj
run f i zero = []
run f i (suc n) = f i ∷ run f (suc i) n

pub listed_run : (names places lens : List ℕ) (n i : ℕ) → listed names places lens i n ≡ run (object_at names places lens) i n
unfolding listed run
listed_run names places lens zero i = refl
listed_run names places lens (suc n) i = ap (λ (os : List Obj). object_at names places lens i ∷ os) (listed_run names places lens n (suc i))

pub run_length : (f : ℕ → Obj) (n i : ℕ) → length (run f i n) ≡ n
unfolding run
run_length f zero i = refl
run_length f (suc n) i = ap suc (run_length f n (suc i))

pub run_same : (f g : ℕ → Obj) (n i j : ℕ) → ((k : ℕ) → k < n → f (i + k) ≡ g (j + k)) → run f i n ≡ run g j n
unfolding run
run_same f g zero i j h = refl
run_same f g (suc n) i j h =
    let a : f i ≡ g j = ap f (sym (add-zero i)) ∙ h 0 (omega arith) ∙ ap g (add-zero j) in
    rw a (ap (λ (os : List Obj). g j ∷ os) (run_same f g n (suc i) (suc j) (λ k l. ap f (omega arith) ∙ h (suc k) (omega arith) ∙ ap g (omega arith))))

pub run_add : (f : ℕ → Obj) (m n i : ℕ) → run f i (m + n) ≡ run f i m ++ run f (i + m) n
unfolding run
run_add f zero n i = rw (zero-add n, add-zero i)
run_add f (suc m) n i = rw (suc-add m n)
    (ap (λ (os : List Obj). f i ∷ os) (run_add f m n (suc i) ∙ ap (λ (k : ℕ). run f (suc i) m ++ run f k n) (omega arith)))

-- as many are listed as are asked for
pub listed_length : (names places lens : List ℕ) (i n : ℕ) → length (listed names places lens i n) ≡ n
listed_length names places lens i n = ap length (listed_run names places lens n i) ∙ run_length (object_at names places lens) n i

-- what holds of all objects listed holds at each index
pub listed_at : (P : Obj → Type 0) (names places lens : List ℕ) (m i : ℕ) → All P (listed names places lens i m)
    → (j : ℕ) → i ≤ j → j < i + m → P (object_at names places lens j)
unfolding listed
listed_at P names places lens zero i h j a b = absurd (omega arith)
listed_at P names places lens (suc m) i h j a b = elim (eq-or-lt_of_le a) [
  | inl e ↦ rw (← e) h.0
  | inr l ↦ listed_at P names places lens m (suc i) h.1 j l (omega arith)
]
