-- The objects that columns list: tests and sums over the list are tests and sums over the indices, in which a column that does not
-- matter no longer stands. Each law follows the list's recursion.
use mathlib.Core.Path.{◌≡◌, refl, ap}
use mathlib.Core.Bool.{Bool, cond, ◌&&◌}
use mathlib.Core.List.{List, [], ◌∷◌}
use Prim.Native.Nat.{ℕ, zero, suc, ◌+◌, ◌*◌, ◌≤◌, ◌<◌}
use native.Mathlib.Omega.{arith}
use lib.Dec.{eqb}
use lib.ListN.{length, get_or, take, drop, drop_of_length-le}
use lib.Seq.{drop-cons, get_or-take, length-take-le}
use Rattle.rules.specs.Words.{word_values}
use Rattle.rules.specs.Classes.{Obj, class_of, volume, volume_of}
use Rattle.rules.specs.Regions.{span, every}
use Rattle.rules.specs.Columns.{listed, sum_of}
use Rattle.rules.specs.Sound.{each}
pub use Rattle.rules.specs.Columns.{object_at}

-- what the object at index i adds to the volume of class c
abbrev pub added_at : List ℕ → ℕ → ℕ → ℕ
added_at lens c i = cond (eqb (class_of (get_or lens i 0)) c) (get_or lens i 0) 0

module _ (names places lens : List ℕ) where
  pub each_listed : (f : Obj → Bool) (i n : ℕ) → each f (listed names places lens i n) ≡ every (λ k. f (object_at names places lens k)) i n
  unfolding each every listed
  each_listed f i zero = refl
  each_listed f i (suc n) = ap (λ (b : Bool). f (object_at names places lens i) && b) (each_listed f (suc i) n)

  pub length_listed : (i n : ℕ) → length (listed names places lens i n) ≡ n
  unfolding listed
  length_listed i zero = refl
  length_listed i (suc n) = ap suc (length_listed (suc i) n)

  pub volume_listed : (i n : ℕ) → i + n ≡ length lens → volume (listed names places lens i n) ≡ sum_of (drop i lens)
  unfolding volume listed sum_of
  volume_listed i zero h = let none : drop i lens ≡ [] = drop_of_length-le lens {i = i} (omega arith) in rw none
  volume_listed i (suc n) h = rw (drop-cons lens i 0 (omega arith)) (ap (λ (v : ℕ). get_or lens i 0 + v) (volume_listed (suc i) n (omega arith)))

  pub volume_few : ((k : ℕ) → get_or lens k 0 < word_values) → (i n : ℕ) → volume (listed names places lens i n) ≤ word_values * n
  unfolding volume listed
  volume_few h i zero = omega arith
  volume_few h i (suc n) = omega (arith, h i, volume_few h (suc i) n)

  pub class_listed : (c i n : ℕ) → volume_of c (listed names places lens i n) ≡ span (added_at lens c) i n
  unfolding volume_of span listed
  class_listed c i zero = refl
  class_listed c i (suc n) = ap (λ (v : ℕ). added_at lens c i + v) (class_listed c (suc i) n)

-- the first n of each column list the same objects
taken_from : (names places lens : List ℕ) (n i m : ℕ) → i + m ≤ n
    → listed (take n names) (take n places) (take n lens) i m ≡ listed names places lens i m
unfolding listed
taken_from names places lens n i zero h = refl
taken_from names places lens n i (suc m) h =
    let l : i < n = omega arith in
    rw (get_or-take n names i 0 l, get_or-take n places i 0 l, get_or-take n lens i 0 l)
    (ap (λ (os : List Obj). object_at names places lens i ∷ os) (taken_from names places lens n (suc i) m (omega arith)))

pub listed_taken : (names places lens : List ℕ) (n : ℕ) → n ≤ length lens
    → listed (take n names) (take n places) (take n lens) 0 (length (take n lens)) ≡ listed names places lens 0 n
listed_taken names places lens n h = rw (length-take-le n lens h) (taken_from names places lens n 0 n (omega arith))
