-- Balance from a class on: the sums up to the class reached, and what is left of the scan over the classes above.
use mathlib.Core.Path.{◌≡◌, refl, ap, ◌∙◌}
use mathlib.Core.Bool.{Bool, true, false, not, ◌||◌}
use mathlib.Core.List.{List}
use Prim.Native.Nat.{ℕ, suc, ◌+◌, ◌-◌, ◌*◌, ◌≤◌, ◌<◌}
use native.Mathlib.Numerals.{add-one}
use native.Mathlib.Omega.{arith}
use borrow.Author.Tests.{le-leb, lt-leb}
use lib.Dec.{leb}
use Rattle.rules.specs.House.{classes}
use Rattle.rules.specs.Classes.{Obj}
use Rattle.rules.specs.Regions.{Regions, col, column, span, up_from}
use Rattle.rules.specs.Boundary.{clean}
use Rattle.rules.specs.Sound.{live_at, if_clean, balanced}
use Rattle.rules.proofs.Tables.{span_add, span_same, column_at}
use Rattle.sound_rest.specs.Rest.{enough_by, enough_from, balanced_by}
use Rattle.sound_limits.proofs.Scans.{Scanning, stopped, passed, ended}
use Rattle.sound_rest.proofs.Tests.{every_same}

-- what the classes from `class` up to `next` have, and what is asked of them
pub record Weighing (t : Regions) (lives : List ℕ) (class has asked next : ℕ) : Type 0 where
  pub low : class ≤ next
  pub to_end : next ≤ suc classes
  pub few_has : has ≤ 8589934592 * next
  pub few_asked : asked ≤ 4294967296 * next
  pub has_sum : has ≡ span (col lives) class (next - class) + span (col t.useds) class (next - class)
  pub asked_sum : asked ≡ span (col t.sizes) class (next - class)

weigh_start : (t : Regions) (lives : List ℕ) (class : ℕ) → class ≤ classes → Weighing t lives class 0 0 class
unfolding span
weigh_start t lives class l = let e : class - class ≡ 0 = omega arith in record {
  low = omega arith;
  to_end = omega arith;
  few_has = omega arith;
  few_asked = omega arith;
  has_sum = rw e;
  asked_sum = rw e;
}

-- one class more
span_one : (f : ℕ → ℕ) (k l : ℕ) → k ≤ l → span f k (l + 1 - k) ≡ span f k (l - k) + f l
unfolding span
span_one f k l h =
    let e : l + 1 - k ≡ (l - k) + 1 = omega arith in
    let m : k + (l - k) ≡ l = omega arith in
    rw e (omega (arith, span_add f k (l - k) 1, ap f m))

module _ {t : Regions} {lives : List ℕ} {class has asked next : ℕ} (w : Weighing t lives class has asked next) (h : next < suc classes) where
  pub weigh_next : {used size : ℕ} → col lives next ≤ 4294967296 → (used ≡ col t.useds next) × (used ≤ 4294967295)
      → (size ≡ col t.sizes next) × (size ≤ 4294967295) → Weighing t lives class (has + (col lives next + used)) (asked + size) (next + 1)
  weigh_next a u s = record {
    low = omega (arith, w.low);
    to_end = omega arith;
    few_has = omega (arith, w.few_has);
    few_asked = omega (arith, w.few_asked);
    has_sum = omega (arith, w.has_sum, span_one (col lives) class next w.low, span_one (col t.useds) class next w.low);
    asked_sum = omega (arith, w.asked_sum, span_one (col t.sizes) class next w.low);
  }

-- what the loop keeps
pub record Balancing (t : Regions) (lives : List ℕ) (class : ℕ) (goal : Bool) (has asked next : ℕ) : Type 0 where
  pub weights : Weighing t lives class has asked next
  pub scan : Scanning (λ l. if_clean t l (enough_by t (col lives) class l)) (2 + classes) goal (next + 1)

pub balance_start : (t : Regions) (lives : List ℕ) (class : ℕ) → class ≤ classes → clean t.useds t.lowests class ≡ true
    → Balancing t lives class (enough_from t (col lives) class) 0 0 class
balance_start t lives class l e = record {
  weights = weigh_start t lives class l;
  scan = (let n : 2 + classes - suc class ≡ suc classes - class = omega arith in rw (add-one class) record { left = rw (e, n) });
}

or_true : (b : Bool) → (b || true) ≡ true
or_true true = refl
or_true false = refl

module _ {t : Regions} {lives : List ℕ} {class : ℕ} {goal : Bool} {has asked next : ℕ}
    (w : Weighing t lives class has asked next) (s : Scanning (λ l. if_clean t l (enough_by t (col lives) class l)) (2 + classes) goal next) where
  enough_is : (b : Bool) → leb asked has ≡ b → enough_by t (col lives) class next ≡ b
  enough_is b e = rw (w.asked_sum, w.has_sum) at e

  pub balance_enough : asked ≤ has → Balancing t lives class goal has asked next
  balance_enough h = record {
    weights = w;
    scan = passed s (omega (arith, w.to_end))
        (ap (λ (b : Bool). if_clean t next b) (enough_is true (le-leb asked has h)) ∙ or_true (not (clean t.useds t.lowests next)));
  }

  pub balance_unclean : clean t.useds t.lowests next ≡ false → Balancing t lives class goal has asked next
  balance_unclean e = record { weights = w; scan = passed s (omega (arith, w.to_end)) (rw e) }

  pub balance_short : has < asked → clean t.useds t.lowests next ≡ true → false ≡ goal
  balance_short h e = stopped s (omega (arith, w.to_end)) (rw e (enough_is false (lt-leb asked has h)))

pub balance_end : {t : Regions} {lives : List ℕ} {class : ℕ} {goal : Bool} {has asked next : ℕ} → Balancing t lives class goal has asked next
    → suc classes ≤ next → true ≡ goal
balance_end b h = ended b.scan (omega arith)

-- the live volumes in a column
balanced_same : (t : Regions) (f g : ℕ → ℕ) → ((c : ℕ) → c ≤ classes → f c ≡ g c) → balanced_by t f ≡ balanced_by t g
balanced_same t f g h =
    every_same (enough_from t f) (enough_from t g) 1 classes (λ k a b.
    ap (if_clean t k) (every_same (λ l. if_clean t l (enough_by t f k l)) (λ l. if_clean t l (enough_by t g k l)) (suc k) (up_from k) (λ l c d.
    ap (λ (v : ℕ). if_clean t l (leb (span (col t.sizes) k (l - k)) (v + span (col t.useds) k (l - k))))
    (span_same f g k (l - k) (λ i x y. h i (omega arith))))))

pub balanced_column : (t : Regions) (os : List Obj) (deleted : ℕ) (lives : List ℕ) → lives ≡ column (live_at os deleted)
    → balanced_by t (col lives) ≡ balanced t os deleted
unfolding balanced
balanced_column t os deleted lives e = balanced_same t (col lives) (live_at os deleted) (λ c l. rw e (column_at (live_at os deleted) c l))
