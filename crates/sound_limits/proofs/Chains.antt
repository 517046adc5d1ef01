-- A test of all that a chain gives is the test of every number that the chain goes through; and tests made in turn.
use mathlib.Core.Path.{◌≡◌, refl, sym, ap, ◌∙◌}
use mathlib.Core.Bool.{Bool, true, false, ◌&&◌}
use mathlib.Core.Logic.{◌⊎◌, inl, inr}
use mathlib.Core.List.{List, [], ◌∷◌}
use Prim.Native.Nat.{ℕ, zero, suc}
use native.Mathlib.Numerals.{add-one}
use native.Mathlib.Omega.{arith}
use lib.ListN.{length, get_or}
use Rattle.std.specs.List.{list_all, zip, range_with_len}
use Rattle.rules.specs.Regions.{every}

-- the numbers of a range
pub every_range : (f : ℕ → Bool) (k n : ℕ) → list_all f (range_with_len k n) ≡ every f k n
unfolding every
every_range f k zero = refl
every_range f k (suc n) = rw (add-one k) (ap (λ (b : Bool). f k && b) (every_range f (suc k) n))

-- one number later
pub every_later : (f : ℕ → Bool) (i n : ℕ) → every f (suc i) n ≡ every (λ k. f (suc k)) i n
unfolding every
every_later f i zero = refl
every_later f i (suc n) = ap (λ (b : Bool). f (suc i) && b) (every_later f (suc i) n)

-- two columns side by side
pub every_pair : (t : ℕ → ℕ → Bool) (xs ys : List ℕ) → length xs ≡ length ys
    → list_all (λ p. t p.0 p.1) (zip xs ys) ≡ every (λ k. t (get_or xs k 0) (get_or ys k 0)) 0 (length ys)
unfolding every
every_pair t [] [] e = refl
every_pair t [] (y ∷ ys) e = absurd (omega arith)
every_pair t (x ∷ xs) [] e = absurd (omega arith)
every_pair t (x ∷ xs) (y ∷ ys) e = ap (λ (b : Bool). t x y && b) (every_pair t xs ys (omega arith)
    ∙ sym (every_later (λ k. t (get_or (x ∷ xs) k 0) (get_or (y ∷ ys) k 0)) 0 (length ys)))

-- a test that is made only where another holds
pub in_turn : {a b v : Bool} → ((a ≡ true) × (v ≡ b)) ⊎ ((a ≡ false) × (v ≡ a)) → v ≡ (a && b)
in_turn (inl h) = rw h.0 h.1
in_turn (inr h) = rw h.0 (h.1 ∙ h.0)
