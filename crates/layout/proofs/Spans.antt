-- Sums over classes in code, and what the starts of regions and keys come to: small sizes add up to numbers far below 32 bits, and
-- a table of starts says what the definition says.
use mathlib.Core.Path.{◌≡◌, refl, ap, ◌∙◌}
use mathlib.Core.Bool.{cond, ◌&&◌}
use mathlib.Core.List.{List, []}
use Prim.Native.Nat.{ℕ, zero, suc, ◌+◌, ◌-◌, ◌*◌, ◌≤◌, ◌<◌}
use native.Mathlib.Omega.{arith}
use native.Mathlib.Nat.{mul-div-le, zero-add}
use lib.Dec.{leb, ltb}
use lib.ListN.{length, get_or, set, replicate, drop, drop_of_length-le}
use lib.Seq.{drop-cons}
use Rattle.std.specs.List.{sum_by}
use Rattle.std.proofs.lemmas.List.Sums.{sum_by-cons}
use borrow.Author.Tests.{le-leb, lt-leb}
use Rattle.rules.specs.House.{share, classes}
use Rattle.rules.specs.Classes.{class_of}
use Rattle.rules.specs.Regions.{col, table, span, buffer_size, extent, start_of, footprint}
use Rattle.rules.specs.Columns.{stays, of_payload, of_overflow}
use Rattle.rules.proofs.Tables.{table_at}
use Rattle.layout.specs.Layout.{Small, row, slot_count, sizes_by, middle_starts, home_at, homes_by, old_kind}
use Rattle.layout.proofs.Fills.{cond_few, table_few}
use Rattle.layout.proofs.Counts.{set_few, same_few}
use Rattle.rules.proofs.ClassLaws.{class_few}

-- a sum over classes is the sum of what a column gives from there on
pub span_column : (f : ℕ → ℕ) (xs : List ℕ) (k n : ℕ) → k + n ≡ length xs → sum_by f (drop k xs) ≡ span (λ i. f (get_or xs i 0)) k n
unfolding span
span_column f xs k zero e = let none : drop k xs ≡ [] = drop_of_length-le xs {i = k} (omega arith) in rw none
span_column f xs k (suc n) e =
    rw (drop-cons xs k 0 (omega arith), sum_by-cons f (get_or xs k 0) (drop (suc k) xs))
    (ap (λ (s : ℕ). f (get_or xs k 0) + s) (span_column f xs (suc k) n (omega arith)))

-- a sum of n numbers
span_few : (f : ℕ → ℕ) → ((k : ℕ) → f k ≤ 33554432) → (k n : ℕ) → span f k n ≤ 33554432 * n
unfolding span
span_few f h k zero = omega arith
span_few f h k (suc n) = omega (arith, h k, span_few f h (suc k) n)

-- the buffers of small sizes
pub buffers_few : (sizes : List ℕ) → Small sizes → (k n : ℕ) → span (buffer_size share sizes) k n ≤ 16777216 * n
unfolding span
buffers_few sizes small k zero = omega arith
buffers_few sizes small k (suc n) = omega (arith, small k, mul-div-le (get_or sizes k 0) 4, buffers_few sizes small (suc k) n)

module _ (sizes : List ℕ) (small : Small sizes) where
  extent_few : (k : ℕ) → extent share sizes k ≤ 33554432
  extent_few k = omega (arith, small k, mul-div-le (get_or sizes k 0) 4)

  pub footprint_few : footprint share sizes ≤ 402653184
  footprint_few = span_few (extent share sizes) extent_few 1 classes

  start_few : (c : ℕ) → c ≤ suc classes → start_of share sizes c ≤ 402653184
  start_few c l = omega (arith, span_few (extent share sizes) extent_few 1 (c - 1))

  -- the table of starts
  pub starts_few : (starts : List ℕ) → starts ≡ table (start_of share sizes) 0 row → (k : ℕ) → get_or starts k 0 ≤ 402653184
  starts_few starts e k = rw e (table_few (start_of share sizes) 402653184 0 row (λ j l. start_few j (omega arith)) k)

-- what the table says of a class
pub starts_at : (sizes starts : List ℕ) → starts ≡ table (start_of share sizes) 0 row → (k : ℕ) → k ≤ suc classes
    → get_or starts k 0 ≡ start_of share sizes k
starts_at sizes starts e k l = rw e (table_at (start_of share sizes) 0 row k (omega arith) ∙ ap (start_of share sizes) (zero-add k))

-- the new sizes are small
pub sizes_small : (sizes volumes : List ℕ) (b : ℕ) (news : List ℕ) → Small sizes → Small volumes → news ≡ sizes_by sizes b volumes → Small news
unfolding sizes_by
sizes_small sizes volumes b news p q e k =
    rw e (table_few (λ i. cond (ltb i b) (col sizes i) (col volumes i)) 16777216 0 (suc classes)
    (λ i l. cond_few (ltb i b) (col sizes i) (col volumes i) 16777216 (p i) (q i)) k)

-- where the kinds and the slots start is no large number
pub middle_few : (volume goal : ℕ) (starts : List ℕ) → starts ≡ middle_starts volume goal → goal ≤ 2147483648 → (k : ℕ)
    → get_or starts k 0 ≤ 2147483648
unfolding middle_starts
middle_few volume goal starts e l k =
    rw e (set_few (set (replicate slot_count 0) of_payload (goal - volume)) of_overflow goal 2147483648
    (set_few (replicate slot_count 0) of_payload (goal - volume) 2147483648 (λ j. same_few slot_count 0 2147483648 j (omega arith)) (omega arith)) l k)

pub homes_few : (news volumes starts : List ℕ) → Small news → Small volumes → starts ≡ homes_by news volumes → (k : ℕ)
    → get_or starts k 0 ≤ 2147483648
unfolding homes_by
homes_few news volumes starts p q e k = rw e (table_few (home_at homes volumes) 2147483648 0 slot_count (λ j l.
    cond_few (ltb j row) 0 (cond (ltb j (2 * row)) (get_or homes (j - row) 0) (get_or homes (j - 2 * row) 0 + get_or volumes (j - row) 0)) 2147483648
    (omega arith)
    (cond_few (ltb j (2 * row)) (get_or homes (j - row) 0) (get_or homes (j - 2 * row) 0 + get_or volumes (j - row) 0) 2147483648
    (omega (arith, starts_few news p homes refl (j - row)))
    (omega (arith, starts_few news p homes refl (j - 2 * row), q (j - row))))) k)
  where
    homes : List ℕ
    homes = table (start_of share news) 0 row

-- the kind of an old object, by the table of starts
module _ (sizes : List ℕ) {starts : List ℕ} (table_is : starts ≡ table (start_of share sizes) 0 row) (b at len : ℕ) (most : b ≤ classes) where
  start_b : get_or starts b 0 ≡ start_of share sizes b
  start_b = starts_at sizes starts table_is b (omega arith)

  pub kind_below : at < get_or starts b 0 → stays ≡ old_kind sizes b at len
  kind_below l = rw (lt-leb (start_of share sizes b) at (omega (arith, start_b)))

  pub kind_above : {class size kind : ℕ} → get_or starts b 0 ≤ at → class ≡ class_of len → size ≡ col sizes class
      → kind ≡ cond (leb (get_or starts class 0) at && leb (at + len) (get_or starts class 0 + size)) of_payload of_overflow → kind ≡ old_kind sizes b at len
  kind_above l e f g =
      g ∙ rw (f, e, starts_at sizes starts table_is (class_of len) (class_few len), le-leb (start_of share sizes b) at (omega (arith, start_b)))
