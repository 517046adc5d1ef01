-- What a layout reads of a column of lengths: the first n of them say all.
use mathlib.Core.Path.{◌≡◌, refl, ap}
use mathlib.Core.Bool.{true, false, cond}
use mathlib.Core.List.{List}
use Prim.Native.Nat.{ℕ, zero, suc, ◌+◌, ◌≤◌, ◌<◌}
use native.Mathlib.Omega.{arith}
use borrow.Author.Tests.{ltb-true}
use lib.Dec.{ltb}
use lib.ListN.{length, get_or, take}
use lib.Seq.{get_or-take, length-take-le}
use Rattle.rules.specs.House.{most_objects}
use Rattle.rules.specs.Classes.{class_of}
use Rattle.rules.specs.Columns.{of_payload, of_overflow}
use Rattle.layout.specs.Layout.{filled, slot_count, classes_of, kinds_of, old_kind, key_volume, tally_of, longest_by, places_by, layout_of}
use Rattle.layout.proofs.Fills.{table_same}

-- the same entries below n, the same column
filled_same : (f g : ℕ → ℕ) (n rest size : ℕ) → ((i : ℕ) → i < n → f i ≡ g i) → filled f n rest size ≡ filled g n rest size
filled_same f g n rest size h = table_same (λ i. cond (ltb i n) (f i) rest) (λ i. cond (ltb i n) (g i) rest) 0 size (λ i a b.
    (elim (ltb i n) as (λ t. ltb i n ≡ t → cond t (f i) rest ≡ cond t (g i) rest) [ true ↦ λ e. h i (ltb-true i n e) | false ↦ λ e. refl ]) refl)

module _ (lens : List ℕ) (n : ℕ) (most : n ≤ length lens) where
  same : (i : ℕ) → i < n → get_or (take n lens) i 0 ≡ get_or lens i 0
  same i l = get_or-take n lens i 0 l

  classes_taken : classes_of (take n lens) n ≡ classes_of lens n
  unfolding classes_of
  classes_taken = filled_same _ _ n 0 most_objects (λ i l. ap class_of (same i l))

  kinds_taken : (sizes : List ℕ) (b : ℕ) (places : List ℕ) (old : ℕ) → old ≤ n → kinds_of sizes b places (take n lens) old ≡ kinds_of sizes b places lens old
  unfolding kinds_of
  kinds_taken sizes b places old part = filled_same _ _ old _ most_objects (λ i l. ap (old_kind sizes b (get_or places i 0)) (same i (omega arith)))

  pub volume_taken : (keys : List ℕ) (k i m : ℕ) → i + m ≤ n → key_volume keys (take n lens) k i m ≡ key_volume keys lens k i m
  unfolding key_volume
  volume_taken keys k i zero h = refl
  volume_taken keys k i (suc m) h = rw (same i (omega arith), volume_taken keys k (suc i) m (omega arith))

  pub tally_taken : (keys : List ℕ) → tally_of keys (take n lens) n ≡ tally_of keys lens n
  unfolding tally_of
  tally_taken keys = table_same _ _ 0 slot_count (λ k a b. volume_taken keys k 0 n (omega arith))

  longest_taken : (i m : ℕ) → i + m ≤ n → longest_by (take n lens) i m ≡ longest_by lens i m
  unfolding longest_by
  longest_taken i zero h = refl
  longest_taken i (suc m) h = rw (same i (omega arith), longest_taken (suc i) m (omega arith))

  places_taken : (keys starts : List ℕ) → places_by keys (take n lens) n starts ≡ places_by keys lens n starts
  unfolding places_by
  places_taken keys starts = filled_same _ _ n 0 most_objects (λ i l.
      ap (λ (v : ℕ). get_or starts (get_or keys i 0) 0 + v) (volume_taken keys (get_or keys i 0) 0 i (omega arith)))

  pub layout_taken : (sizes : List ℕ) (b : ℕ) (places : List ℕ) (old : ℕ) → old ≤ n
      → layout_of sizes b places (take n lens) old (length (take n lens)) ≡ layout_of sizes b places lens old n
  unfolding layout_of
  layout_taken sizes b places old part =
      let payload : (keys : List ℕ) → key_volume keys (take n lens) of_payload 0 n ≡ key_volume keys lens of_payload 0 n =
      λ keys. volume_taken keys of_payload 0 n (omega arith) in
      let overflow : (keys : List ℕ) → key_volume keys (take n lens) of_overflow 0 n ≡ key_volume keys lens of_overflow 0 n =
      λ keys. volume_taken keys of_overflow 0 n (omega arith) in
      let before : (keys : List ℕ) → key_volume keys (take n lens) of_overflow 0 old ≡ key_volume keys lens of_overflow 0 old =
      λ keys. volume_taken keys of_overflow 0 old (omega arith) in
      rw (length-take-le n lens most) (simp (
        kinds_taken sizes b places old part,
        longest_taken 0 n (omega arith),
        classes_taken,
        tally_taken,
        places_taken,
        payload,
        overflow,
        before,
      ))
