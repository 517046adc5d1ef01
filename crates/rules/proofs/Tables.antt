-- Tables over the classes: columns, sums over a span of classes, and tests of every class.
use mathlib.Core.Path.{◌≡◌, refl, sym, ap, ◌∙◌}
use mathlib.Core.Logic.{◌⊎◌, inl, inr}
use mathlib.Core.Bool.{Bool, true, false, cond}
use Prim.Native.Nat.{ℕ, zero, suc, ◌+◌, ◌*◌, ◌≤◌, ◌<◌}
use native.Mathlib.Omega.{arith}
use native.Mathlib.Nat.{zero-add, add-zero, suc-add, eq-or-lt_of_le}
use lib.Dec.{eqb, leb, ltb}
use borrow.Author.Tests.{eq-eqb, ne_eqb, leb-true, leb-false, ltb-true, ltb-false}
use Rattle.rules.specs.House.{classes}
use Rattle.rules.specs.Regions.{col, table, column, span, every}
use Rattle.rules.proofs.Lists.{and_true, true_and}

-- what stands in a table
pub table_at : (f : ℕ → ℕ) (i n k : ℕ) → k < n → col (table f i n) k ≡ f (i + k)
unfolding table
table_at f i zero k l = absurd (omega arith)
table_at f i (suc n) zero l = ap f (sym (add-zero i))
table_at f i (suc n) (suc k) l = table_at f (suc i) n k (omega arith) ∙ ap f (omega arith)

-- a column says of each class what its function says
pub column_at : (f : ℕ → ℕ) (i : ℕ) → i ≤ classes → col (column f) i ≡ f i
column_at f i l = table_at f 0 (suc classes) i (omega arith) ∙ ap f (zero-add i)

-- every class of a span passes, both ways
pub every_at : (f : ℕ → Bool) (k n : ℕ) → every f k n ≡ true → (i : ℕ) → k ≤ i → i < k + n → f i ≡ true
unfolding every
every_at f k zero e i a b = absurd (omega arith)
every_at f k (suc n) e i a b = let p = and_true (f k) (every f (suc k) n) e in elim (eq-or-lt_of_le a) [
  | inl q ↦ rw (← q) p.0
  | inr l ↦ every_at f (suc k) n p.1 i l (omega arith)
]

pub at_every : (f : ℕ → Bool) (k n : ℕ) → ((i : ℕ) → k ≤ i → i < k + n → f i ≡ true) → every f k n ≡ true
unfolding every
at_every f k zero h = refl
at_every f k (suc n) h =
    true_and (f k) (every f (suc k) n) (h k (omega arith) (omega arith)) (at_every f (suc k) n (λ i a b. h i (omega arith) (omega arith)))

-- sums over a span
pub span_add : (f : ℕ → ℕ) (k m n : ℕ) → span f k (m + n) ≡ span f k m + span f (k + m) n
unfolding span
span_add f k zero n = rw (zero-add, add-zero) (omega arith)
span_add f k (suc m) n =
    let e : k + suc m ≡ suc k + m = omega arith in
    rw (suc-add m n, e) (omega (arith, span_add f (suc k) m n))

pub span_le : (f g : ℕ → ℕ) (k n : ℕ) → ((i : ℕ) → k ≤ i → i < k + n → f i ≤ g i) → span f k n ≤ span g k n
unfolding span
span_le f g k zero h = omega arith
span_le f g k (suc n) h =
    omega (arith, h k (omega arith) (omega arith), span_le f g (suc k) n (λ i a b. h i (omega arith) (omega arith)))

pub span_same : (f g : ℕ → ℕ) (k n : ℕ) → ((i : ℕ) → k ≤ i → i < k + n → f i ≡ g i) → span f k n ≡ span g k n
span_same f g k n h = omega (arith, span_le f g k n (λ i a b. omega (arith, h i a b)), span_le g f k n (λ i a b. omega (arith, h i a b)))

pub span_sum : (f g : ℕ → ℕ) (k n : ℕ) → span (λ i. f i + g i) k n ≡ span f k n + span g k n
unfolding span
span_sum f g k zero = refl
span_sum f g k (suc n) = omega (arith, span_sum f g (suc k) n)

pub span_scale : (m : ℕ) (f : ℕ → ℕ) (k n : ℕ) → span (λ i. m * f i) k n ≡ m * span f k n
unfolding span
span_scale m f k zero = omega arith
span_scale m f k (suc n) = omega (arith, span_scale m f (suc k) n)

pub span_zero : (k n : ℕ) → span (λ i. 0) k n ≡ 0
unfolding span
span_zero k zero = refl
span_zero k (suc n) = omega (arith, span_zero (suc k) n)

-- f with x more at class j
unfoldable pub more : ℕ → ℕ → (ℕ → ℕ) → ℕ → ℕ
more j x f i = cond (eqb i j) x 0 + f i

pub more_at : (j x : ℕ) (f : ℕ → ℕ) (i : ℕ) → i ≡ j → more j x f i ≡ x + f i
unfolding more
more_at j x f i e = rw (eq-eqb i j e)

pub more_off : (j x : ℕ) (f : ℕ → ℕ) (i : ℕ) → (i ≡ j → ⊥) → more j x f i ≡ f i
unfolding more
more_off j x f i n = rw (ne_eqb i j n) (omega arith)

pub more_le : (j x : ℕ) (f : ℕ → ℕ) (i : ℕ) → f i ≤ more j x f i
unfolding more
more_le j x f i = omega arith

pub span_more_out : (j x : ℕ) (f : ℕ → ℕ) (k n : ℕ) → (k ≤ j → j < k + n → ⊥) → span (more j x f) k n ≡ span f k n
unfolding span
span_more_out j x f k zero o = refl
span_more_out j x f k (suc n) o =
    omega (arith, more_off j x f k (λ e. o (omega arith) (omega arith)), span_more_out j x f (suc k) n (λ a b. o (omega arith) (omega arith)))

pub span_more_in : (j x : ℕ) (f : ℕ → ℕ) (k n : ℕ) → k ≤ j → j < k + n → span (more j x f) k n ≡ x + span f k n
unfolding span
span_more_in j x f k zero a b = absurd (omega arith)
span_more_in j x f k (suc n) a b = elim (eq-or-lt_of_le a) [
  | inl e ↦ omega (arith, more_at j x f k e, span_more_out j x f (suc k) n (λ c d. omega arith))
  | inr l ↦ omega (arith, more_off j x f k (λ e. omega arith), span_more_in j x f (suc k) n l (omega arith))
]

-- a class is in a span of classes, or it is not
pub in_span : (k n j : ℕ) → ((k ≤ j) × (j < k + n)) ⊎ (k ≤ j → j < k + n → ⊥)
in_span k n j = elim (leb k j) as (λ t. leb k j ≡ t → ((k ≤ j) × (j < k + n)) ⊎ (k ≤ j → j < k + n → ⊥)) [
  | true ↦ λ e. elim (ltb j (k + n)) as (λ t. ltb j (k + n) ≡ t → ((k ≤ j) × (j < k + n)) ⊎ (k ≤ j → j < k + n → ⊥)) [
    | true ↦ λ f. inl (leb-true k j e, ltb-true j (k + n) f)
    | false ↦ λ f. let g = ltb-false j (k + n) f in inr (λ a b. omega arith)
  ] refl
  | false ↦ λ e. let g = leb-false k j e in inr (λ a b. omega arith)
] refl

-- two ways, and three, for two numbers
pub below_or_not : (i j : ℕ) → (i < j) ⊎ (j ≤ i)
below_or_not i j =
    elim (ltb i j) as (λ t. ltb i j ≡ t → (i < j) ⊎ (j ≤ i)) [ true ↦ λ e. inl (ltb-true i j e) | false ↦ λ e. inr (ltb-false i j e) ] refl

pub trio : (i j : ℕ) → (i < j) ⊎ ((i ≡ j) ⊎ (j < i))
trio i j = elim (below_or_not i j) [
  | inl l ↦ inl l
  | inr m ↦ elim (eq-or-lt_of_le m) [ inl q ↦ inr (inl (sym q)) | inr l ↦ inr (inr l) ]
]
