-- What the scans keep. Each goes through a phase's positions, and what is left of the phase's order is its object at this position, if that
-- is of the phase's kind, and then what is left from the next position on; so what the scan has and what is left come to the whole.
use mathlib.Core.Path.{◌≡◌, refl, sym, ap, ◌∙◌}
use mathlib.Core.Bool.{Bool, true, false, cond}
use mathlib.Core.List.{List, [], ◌∷◌}
use Prim.Native.Nat.{ℕ, zero, suc, ◌+◌, ◌-◌, ◌≤◌, ◌<◌}
use native.Mathlib.Numerals.{add-one}
use native.Mathlib.Omega.{arith}
use borrow.Author.Tests.{eq-eqb, ne_eqb}
use lib.Dec.{eqb}
use lib.ListN.{length, take, drop, get_or, set}
use Rattle.std.proofs.lemmas.List.{length-reverse}
use Rattle.std.proofs.lemmas.List.Sums.{sum_by-cons}
use lib.Seq.{take-nil, drop-cons}
use mir.Val.{bool_byte}
use Rattle.std.proofs.Math.ListN.{drop_of_length-le}
use Rattle.std.specs.Prelude.{count_by, ◌==◌, Option, Some, None}
use Rattle.plan.specs.declared.Cut.{Cut}
use Rattle.plan.specs.declared.Turn.{Turn}
use Rattle.plan.proofs.Orders.{falling_order}
use Rattle.plan.specs.Turns.{index_at, keep, order_from, begins, room_after, turn_of, cut_turns, nth_turn, moved_to}

-- what is left of a phase's order from position i on
abbrev pub order_left : List ℕ → ℕ → Bool → ℕ → ℕ → List ℕ
order_left kinds kind falling count i = order_from kinds kind falling count i (count - i)

module _ (kinds : List ℕ) (kind : ℕ) (falling : Bool) (count : ℕ) where
  module _ (i j : ℕ) (h : i < count) (at : j ≡ index_at falling count i) where
    left_step : order_left kinds kind falling count i ≡ keep (eqb (get_or kinds j 0) kind) j (order_left kinds kind falling count (i + 1))
    unfolding order_from
    left_step = let e : count - i ≡ suc (count - (i + 1)) = omega arith in rw (e, add-one i, at)

    pub left_yes : get_or kinds j 0 ≡ kind → order_left kinds kind falling count i ≡ j ∷ order_left kinds kind falling count (i + 1)
    left_yes t = left_step ∙ rw (eq-eqb _ _ t)

    pub left_no : (get_or kinds j 0 ≡ kind → ⊥) → order_left kinds kind falling count i ≡ order_left kinds kind falling count (i + 1)
    left_no t = left_step ∙ rw (ne_eqb _ _ t)

  pub left_end : (i : ℕ) → count ≤ i → order_left kinds kind falling count i ≡ []
  unfolding order_from
  left_end i h = let e : count - i ≡ 0 = omega arith in rw e

-- as many are of a kind, in rising or in falling order
module _ (kinds : List ℕ) (kind : ℕ) where
  length_keep : (b : Bool) (i : ℕ) (is : List ℕ) → length (keep b i is) ≡ cond b 1 0 + length is
  length_keep true i is = omega arith
  length_keep false i is = omega arith

  length_rising : (count i m : ℕ) → i + m ≤ length kinds → length (order_from kinds kind false count i m) ≡ count_by (λ k. k == kind) (take m (drop i kinds))
  unfolding order_from
  length_rising count i zero h = refl
  length_rising count i (suc m) h =
      let k = get_or kinds i 0 in
      let below : i < length kinds = omega arith in
      length_keep (eqb k kind) i (order_from kinds kind false count (suc i) m)
      ∙ rw (length_rising count (suc i) m (omega arith), drop-cons kinds i 0)
      (sym (sum_by-cons (λ x. cond (x == kind) 1 0) k (take m (drop (suc i) kinds))))

  pub length_order : (falling : Bool) (count : ℕ) → count ≤ length kinds
      → length (order_from kinds kind falling count 0 count) ≡ count_by (λ k. k == kind) (take count kinds)
  length_order falling count h = (elim falling as (λ b. length (order_from kinds kind b count 0 count) ≡ length (order_from kinds kind false count 0 count)) [
    | true ↦ ap length (falling_order kinds kind count) ∙ length-reverse (order_from kinds kind false count 0 count)
    | false ↦ refl
  ]) ∙ length_rising count 0 count (omega arith)

-- a count of a kind: those found and those left are all, and no more are found than were looked at
module _ (kind : ℕ) (kinds : List ℕ) where
  abbrev pub of_kind_from : ℕ → ℕ
  of_kind_from i = count_by (λ k. k == kind) (drop i kinds)

  pub record Counting (found i : ℕ) : Type 0 where
    pub all : found + of_kind_from i ≡ count_by (λ k. k == kind) kinds
    pub few : found ≤ i

  pub count_start : Counting 0 0
  count_start = record { all = omega arith; few = omega arith }

  one_more : (i : ℕ) → i < length kinds → of_kind_from i ≡ cond (get_or kinds i 0 == kind) 1 0 + of_kind_from (i + 1)
  one_more i h = rw (drop-cons kinds i 0, add-one i) (sum_by-cons (λ x. cond (x == kind) 1 0) (get_or kinds i 0) (drop (suc i) kinds))

  one_as : (b : Bool) → (bool_byte b ≡ cond b 1 0) × (bool_byte b ≤ 1)
  one_as true = (refl, omega arith)
  one_as false = (refl, omega arith)

  module _ {found i : ℕ} (c : Counting found i) where
    pub count_on : i < length kinds → (one : ℕ) → one ≡ bool_byte (get_or kinds i 0 == kind) → Counting (found + one) (i + 1)
    count_on h one e =
        let byte = one_as (get_or kinds i 0 == kind) in
        record { all = omega (arith, c.all, one_more i h, e, byte.0); few = omega (arith, c.few, e, byte.1) }

    pub count_end : length kinds ≤ i → found ≡ count_by (λ k. k == kind) kinds
    count_end h = let e : drop i kinds ≡ [] = drop_of_length-le kinds h in omega (arith, c.all, ap (count_by (λ k. k == kind)) e)

-- a scan for one turn: the one sought is number `skip` of those left
module _ (from to lens : List ℕ) (limit : ℕ) (cut : Cut) (goal : Option Turn) where
  pub record Sought (skip room : ℕ) (is : List ℕ) : Type 0 where
    pub rest : nth_turn (cut_turns from to lens limit cut room is) skip ≡ goal

  module _ {skip room : ℕ} {is : List ℕ} (r : Sought skip room is) where
    pub sought_here : (j : ℕ) (js : List ℕ) → is ≡ j ∷ js → skip ≡ 0 → Some (turn_of from to j (begins cut room (get_or to j 0) (get_or lens j 0))) ≡ goal
    unfolding cut_turns
    sought_here j js e z = sym (rw (e, z)) ∙ r.rest

    pub sought_yes : (j : ℕ) (js : List ℕ) → is ≡ j ∷ js → 0 < skip
        → Sought (skip - 1) (room_after cut limit room (get_or to j 0) (get_or lens j 0)) js
    unfolding cut_turns
    sought_yes j js e some = record {
      rest = (let q : skip ≡ suc (skip - 1) = omega arith in sym (rw e (ap (nth_turn (cut_turns from to lens limit cut room (j ∷ js))) q)) ∙ r.rest);
    }

    pub sought_no : (js : List ℕ) → is ≡ js → Sought skip room js
    sought_no js e = record { rest = rw e at r.rest }

    pub sought_end : is ≡ [] → None ≡ goal
    unfolding cut_turns
    sought_end e = sym (rw e) ∙ r.rest

-- a scan that makes moves: `more` of those left are to be made
module _ (to goal : List ℕ) (spare : ℕ) where
  pub record Moving (more : ℕ) (is places : List ℕ) : Type 0 where
    pub rest : moved_to to (take more is) places ≡ goal
    pub over : more - length is ≡ spare

  module _ {more : ℕ} {is places : List ℕ} (r : Moving more is places) where
    pub moving_stop : more ≡ 0 → (places ≡ goal) × (0 ≡ spare)
    unfolding moved_to
    moving_stop z = (sym (rw z) ∙ r.rest, omega (arith, r.over))

    pub moving_yes : (j : ℕ) (js : List ℕ) → is ≡ j ∷ js → 0 < more → Moving (more - 1) js (set places j (get_or to j 0))
    unfolding moved_to
    moving_yes j js e some = record {
      rest = (let q : more ≡ suc (more - 1) = omega arith in sym (rw e (ap (λ (x : ℕ). moved_to to (take x (j ∷ js)) places) q)) ∙ r.rest);
      over = omega (arith, ap length e, r.over);
    }

    pub moving_no : (js : List ℕ) → is ≡ js → Moving more js places
    moving_no js e = record { rest = rw e at r.rest; over = rw e at r.over }

    pub moving_end : is ≡ [] → (places ≡ goal) × (more ≡ spare)
    unfolding moved_to
    moving_end e = (sym (rw (e, take-nil more)) ∙ r.rest, omega (arith, ap length e, r.over))
