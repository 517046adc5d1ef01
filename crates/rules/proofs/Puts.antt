-- A column with one class changed, and the lower of two classes.
use mathlib.Core.Path.{◌≡◌, refl, ap, ◌∙◌}
use mathlib.Core.Logic.{◌⊎◌, inl, inr}
use mathlib.Core.Bool.{cond}
use mathlib.Core.List.{List}
use Prim.Native.Nat.{ℕ, zero, suc, ◌+◌, ◌≤◌}
use native.Mathlib.Omega.{arith}
use lib.Dec.{eqb}
use borrow.Author.Tests.{eq-eqb, ne_eqb}
use Rattle.rules.specs.House.{classes}
use Rattle.rules.specs.Regions.{col}
use Rattle.rules.specs.Placing.{put, lower_of}
use Rattle.rules.proofs.Tables.{column_at, more, more_at, more_off, trio}

-- the class that was changed
pub put_here : (j v : ℕ) (xs : List ℕ) → j ≤ classes → col (put j v xs) j ≡ v
put_here j v xs l = column_at (λ i. cond (eqb i j) v (col xs i)) j l ∙ rw (eq-eqb j j refl)

-- any other class
pub put_off : (j v : ℕ) (xs : List ℕ) (i : ℕ) → i ≤ classes → (i ≡ j → ⊥) → col (put j v xs) i ≡ col xs i
put_off j v xs i l n = column_at (λ k. cond (eqb k j) v (col xs k)) i l ∙ rw (ne_eqb i j n)

-- two classes are the same, or they are not
pub same_or_not : (i j : ℕ) → (i ≡ j) ⊎ (i ≡ j → ⊥)
same_or_not i j = elim (trio i j) [
  | inl l ↦ inr (λ e. omega arith)
  | inr h ↦ elim h [ inl e ↦ inl e | inr l ↦ inr (λ e. omega arith) ]
]

-- a class with n more
pub put_more : (j v n : ℕ) (xs : List ℕ) (i : ℕ) → i ≤ classes → v ≡ n + col xs j → col (put j v xs) i ≡ more j n (col xs) i
put_more j v n xs i l e = elim (same_or_not i j) [
  | inl s ↦ omega (arith, ap (col (put j v xs)) s, put_here j v xs (omega arith), more_at j n (col xs) i s, ap (col xs) s)
  | inr d ↦ omega (arith, put_off j v xs i l d, more_off j n (col xs) i d)
]

-- the lower of two classes is at most either, and some class
pub lower_class : (low c : ℕ) → lower_of low c ≤ c
lower_class low c = elim (same_or_not low 0) [
  | inl e ↦ rw (eq-eqb low 0 e) (omega arith)
  | inr d ↦ rw (ne_eqb low 0 d) (omega arith)
]

pub lower_low : (low c : ℕ) → 1 ≤ low → lower_of low c ≤ low
lower_low low c l = rw (ne_eqb low 0 (λ e. omega arith)) (omega arith)

pub lower_some : (low c : ℕ) → 1 ≤ c → 1 ≤ lower_of low c
lower_some low c l = elim (same_or_not low 0) [
  | inl e ↦ rw (eq-eqb low 0 e) (omega arith)
  | inr d ↦ rw (ne_eqb low 0 d) (omega (arith, some low d))
]
  where
    some : (m : ℕ) → (m ≡ 0 → ⊥) → 1 ≤ m
    some zero f = absurd (f refl)
    some (suc m) f = omega arith
