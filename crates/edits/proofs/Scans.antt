-- The search of an index: what the index found says, by induction on the number of indices, and that the library's search of a list finds it.
use mathlib.Core.Path.{◌≡◌, refl, sym, ap, ◌∙◌}
use mathlib.Core.Logic.{inl, inr}
use mathlib.Core.Bool.{Bool, true, false, cond, not}
use mathlib.Core.List.{List, [], ◌∷◌}
use Prim.Native.Nat.{ℕ, zero, suc, ◌+◌, ◌≤◌, ◌<◌}
use native.Mathlib.Nat.{zero-add, eq-or-lt_of_le}
use native.Mathlib.Omega.{arith}
use Rattle.std.proofs.lemmas.List.{get_or-take, length-take-le}
use lib.ListN.{length, take, get_or}
use Rattle.std.specs.List.{position_or_len}
use Rattle.edits.specs.Edits.{first_from}

-- r is the first of the m indices from i on, or their end
pub record First (f : ℕ → Bool) (i m r : ℕ) : Type 0 where
  pub low : i ≤ r
  pub high : r ≤ i + m
  pub before : (k : ℕ) → i ≤ k → k < r → f k ≡ false
  pub here : r < i + m → f r ≡ true

first_step : (f : ℕ → Bool) (i m r : ℕ) → f i ≡ false → First f (suc i) m r → First f i (suc m) r
first_step f i m r e s = record {
  low = omega arith;
  high = omega arith;
  before = λ k a b. elim (eq-or-lt_of_le a) [ inl q ↦ ap f (sym q) ∙ e | inr l ↦ s.before k l b ];
  here = λ l. s.here (omega arith);
}

pub first_facts : (f : ℕ → Bool) (m i : ℕ) → First f i m (first_from f i m)
unfolding first_from
first_facts f zero i = record { low = omega arith; high = omega arith; before = λ k a b. absurd (omega arith); here = λ l. absurd (omega arith) }
first_facts f (suc m) i = (elim (f i) as (λ b. f i ≡ b → First f i (suc m) (cond b i (first_from f (suc i) m))) [
  | true ↦ λ e. record { low = omega arith; high = omega arith; before = λ k a b. absurd (omega arith); here = λ l. e }
  | false ↦ λ e. first_step f i m (first_from f (suc i) m) e (first_facts f m (suc i))
]) refl

-- in a list the first index that a test of its entries takes is what the library's search counts up to
pub first_position : (p f : ℕ → Bool) (xs : List ℕ) (i : ℕ) → ((k : ℕ) → k < length xs → f (i + k) ≡ p (get_or xs k 0))
    → first_from f i (length xs) ≡ i + position_or_len p xs
unfolding first_from
first_position p f [] i h = omega arith
first_position p f (x ∷ xs) i h =
    let next = first_position p f xs (suc i) (λ k l. let e : suc i + k ≡ i + suc k = omega arith in rw e (h (suc k) (omega arith))) in
    let here : f i ≡ p x = (let e : i + 0 ≡ i = omega arith in rw e at (h 0 (omega arith))) in
    (elim (p x) as (λ b. p x ≡ b → cond (f i) i (first_from f (suc i) (length xs)) ≡ i + cond (not b) (1 + position_or_len p xs) 0) [
      | true ↦ λ e. rw (here, e) (omega arith)
      | false ↦ λ e. rw (here, e) (omega arith)
    ]) refl

-- and of a list's first n entries
pub first_of : (p : ℕ → Bool) (xs : List ℕ) (n : ℕ) → n ≤ length xs → first_from (λ k. p (get_or xs k 0)) 0 n ≡ position_or_len p (take n xs)
first_of p xs n h =
    let size : length (take n xs) ≡ n = length-take-le n xs h in
    let e = first_position p (λ k. p (get_or xs k 0)) (take n xs) 0
    (λ k l. let z : 0 + k ≡ k = omega arith in rw z (ap p (sym (get_or-take n xs k 0 (omega (arith, size)))))) in
    (rw size at e) ∙ zero-add _
