-- Volumes by class: what is counted and what is left make the whole, for every class.
use mathlib.Core.Path.{◌≡◌, refl, sym, ap, ◌∙◌}
use mathlib.Core.Bool.{Bool, true, false, cond}
use mathlib.Core.List.{List}
use Prim.Native.Nat.{ℕ, suc, ◌+◌, ◌-◌, ◌*◌, ◌≤◌, ◌<◌}
use native.Mathlib.Numerals.{add-one}
use native.Mathlib.Omega.{arith}
use borrow.Author.Tests.{eqb-true, eqb-false, ltb-true, ltb-false}
use lib.Dec.{eqb, ltb}
use lib.ListN.{length, get_or, length-set, get_or-eq_default}
use lib.Seq.{get_or-set_same, get_or-set_other, ext_get_or}
use Rattle.rules.specs.Words.{word_values}
use Rattle.rules.specs.House.{classes}
use Rattle.rules.specs.Classes.{Obj, class_of, volume_of}
use Rattle.rules.specs.Regions.{col, table, column, span}
use Rattle.rules.specs.Columns.{listed}
use Rattle.rules.specs.Sound.{live_at}
use Rattle.rules.proofs.Tables.{column_at}
use Rattle.sound_limits.specs.Limits.{counted}
use Rattle.sound_limits.proofs.Listed.{added_at, class_listed}

-- a length counted, seen at each class
pub counted_at : (vols : List ℕ) (len c : ℕ) → c < length vols → col (counted vols len) c ≡ col vols c + cond (eqb (class_of len) c) len 0
counted_at vols len c l = (elim (eqb (class_of len) c) as (λ t. eqb (class_of len) c ≡ t → col (counted vols len) c ≡ col vols c + cond t len 0) [
  | true ↦ λ e. rw (eqb-true (class_of len) c e) (get_or-set_same vols c (col vols c + len) 0 l)
  | false ↦ λ e. get_or-set_other vols (class_of len) c (col vols (class_of len) + len) 0 (λ q. eqb-false (class_of len) c e (sym q)) ∙ omega arith
]) refl

-- and bounded
pub counted_most : (vols : List ℕ) (len c most : ℕ) → len < word_values → col vols c ≤ most → col (counted vols len) c ≤ most + word_values
counted_most vols len c most l h = (elim (ltb c (length vols)) as (λ t. ltb c (length vols) ≡ t → col (counted vols len) c ≤ most + word_values) [
  | true ↦ λ e. omega (arith, counted_at vols len c (ltb-true _ _ e), part (eqb (class_of len) c))
  | false ↦ λ e. omega (arith, get_or-eq_default (counted vols len) 0 {n = c} (rw length-set (ltb-false _ _ e)))
]) refl
  where
    part : (b : Bool) → cond b len 0 ≤ len
    part true = omega arith
    part false = omega arith

-- a list as long as a column is the column of what it says
is_column : (xs : List ℕ) (f : ℕ → ℕ) → length xs ≡ suc classes → ((c : ℕ) → c ≤ classes → col xs c ≡ f c) → xs ≡ column f
unfolding table
is_column xs f l h = ext_get_or 0 xs (column f) l (λ c m. h c (omega arith) ∙ sym (column_at f c (omega arith)))

-- the volumes counted so far
pub record Counting (lens out : List ℕ) (i : ℕ) : Type 0 where
  pub to_end : i ≤ length lens
  pub size : length out ≡ suc classes
  pub few : (c : ℕ) → col out c ≤ word_values * i
  pub left : (c : ℕ) → c ≤ classes → col out c + span (added_at lens c) i (length lens - i) ≡ span (added_at lens c) 0 (length lens)

module _ {lens out : List ℕ} {i : ℕ} (s : Counting lens out i) where
  pub count_next : {next : List ℕ} → i < length lens → get_or lens i 0 < word_values → next ≡ counted out (get_or lens i 0) → Counting lens next (i + 1)
  unfolding span
  count_next h few e = rw e record {
    to_end = omega arith;
    size = length-set out _ _ ∙ s.size;
    few = λ c. omega (arith, counted_most out (get_or lens i 0) c (word_values * i) few (s.few c));
    left = λ c m.
        (let k : length lens - i ≡ suc (length lens - suc i) = omega arith in
        let w : span (added_at lens c) i (length lens - i) ≡ added_at lens c i + span (added_at lens c) (suc i) (length lens - suc i) = rw k in
        rw (add-one i) (omega (arith, counted_at out (get_or lens i 0) c (omega (arith, s.size)), s.left c m, w)));
  }

  pub count_end : length lens ≤ i → (names places : List ℕ) → out ≡ column (λ c. volume_of c (listed names places lens 0 (length lens)))
  unfolding span
  count_end h names places = is_column out (λ c. volume_of c (listed names places lens 0 (length lens))) s.size (λ c m.
      let k : length lens - i ≡ 0 = omega (arith, s.to_end) in
      let w : span (added_at lens c) i (length lens - i) ≡ 0 = rw k in
      omega (arith, s.left c m, w, class_listed names places lens c 0 (length lens)))

-- a deleted length counted
pub live_column : {vols next : List ℕ} (os : List Obj) (deleted : ℕ) → vols ≡ column (λ c. volume_of c os) → next ≡ counted vols deleted
    → next ≡ column (live_at os deleted)
unfolding table
live_column {vols} {next} os deleted e f = f ∙ is_column (counted vols deleted) (live_at os deleted) (length-set vols _ _ ∙ ap length e) (λ c m.
    counted_at vols deleted c (omega (arith, ap length e)) ∙ rw (e, column_at (λ c. volume_of c os) c m))
