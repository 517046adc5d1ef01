-- What a phase's order takes: indices below its count, of its kind; the falling order is the rising one reversed; and the objects that a rule
-- picks by kind are those of the order.
use mathlib.Core.Path.{◌≡◌, refl, sym, ap, ◌∙◌}
use mathlib.Core.Bool.{Bool, true, false, cond}
use mathlib.Core.List.{List, [], ◌∷◌, ◌++◌, map, reverse, reverse-append, reverse-cons}
use Prim.Native.Nat.{ℕ, zero, suc, ◌+◌, ◌-◌, ◌≤◌, ◌<◌}
use native.Mathlib.Nat.{add-zero}
use native.Mathlib.Omega.{arith}
use borrow.Author.Tests.{eqb-true}
use lib.Dec.{eqb}
use lib.ListN.{get_or}
use Rattle.rules.specs.Classes.{Obj}
use Rattle.rules.specs.Flush.{Move, moves}
use Rattle.rules.specs.Columns.{object_at, picked}
use Rattle.rules.specs.History.{Every}
use Rattle.rules.proofs.Lists.{cond_append}
use Rattle.plan.specs.Turns.{index_at, keep, order_from}

-- what holds of every index of a list, and of one more if it is kept
every_keep : (P : ℕ → Type 0) (b : Bool) (i : ℕ) (is : List ℕ) → (b ≡ true → P i) → Every P is → Every P (keep b i is)
every_keep P true i is f h = (f refl, h)
every_keep P false i is f h = h

module _ (kinds : List ℕ) (kind : ℕ) where
  index_below : (falling : Bool) (count i : ℕ) → i < count → index_at falling count i < count
  index_below true count i h = omega arith
  index_below false count i h = h

  pub order_every : (P : ℕ → Type 0) (falling : Bool) (count : ℕ) → ((i : ℕ) → i < count → get_or kinds i 0 ≡ kind → P i)
      → (i m : ℕ) → i + m ≤ count → Every P (order_from kinds kind falling count i m)
  unfolding order_from
  order_every P falling count f i zero h = tt
  order_every P falling count f i (suc m) h =
      let j = index_at falling count i in
      every_keep P (eqb (get_or kinds j 0) kind) j (order_from kinds kind falling count (suc i) m)
      (λ e. f j (index_below falling count i (omega arith)) (eqb-true (get_or kinds j 0) kind e))
      (order_every P falling count f (suc i) m (omega arith))

  reverse_keep : (b : Bool) (x : ℕ) (xs : List ℕ) → reverse (keep b x []) ++ xs ≡ keep b x xs
  reverse_keep true x xs = refl
  reverse_keep false x xs = refl

  -- one more at the end
  rising_last : (count i m : ℕ)
      → order_from kinds kind false count i (suc m) ≡ order_from kinds kind false count i m ++ keep (eqb (get_or kinds (i + m) 0) kind) (i + m) []
  unfolding order_from
  rising_last count i zero = rw (add-zero i)
  rising_last count i (suc m) =
      let e : suc i + m ≡ i + suc m = omega arith in
      ap (keep (eqb (get_or kinds i 0) kind) i) (rising_last count (suc i) m ∙ rw e)
      ∙ cond_append (eqb (get_or kinds i 0) kind) i (order_from kinds kind false count (suc i) m) (keep (eqb (get_or kinds (i + suc m) 0) kind) (i + suc m) [])

  falling_from : (count i m : ℕ) → i + m ≡ count → order_from kinds kind true count i m ≡ reverse (order_from kinds kind false count 0 m)
  unfolding order_from
  falling_from count i zero h = refl
  falling_from count i (suc m) h =
      let e : count - suc i ≡ m = omega arith in
      let z : 0 + m ≡ m = omega arith in
      let g : order_from kinds kind false count 0 (suc m) ≡ order_from kinds kind false count 0 m ++ keep
      (eqb (get_or kinds m 0) kind) m [] = rising_last count 0 m ∙ rw z in
      rw e (ap (keep (eqb (get_or kinds m 0) kind) m) (falling_from count (suc i) m (omega arith)))
      ∙ sym (ap (λ (l : List ℕ). reverse l) g
      ∙ reverse-append (order_from kinds kind false count 0 m) (keep (eqb (get_or kinds m 0) kind) m [])
      ∙ reverse_keep (eqb (get_or kinds m 0) kind) m (reverse (order_from kinds kind false count 0 m)))

  pub falling_order : (count : ℕ) → order_from kinds kind true count 0 count ≡ reverse (order_from kinds kind false count 0 count)
  falling_order count = falling_from count 0 count (omega arith)

module _ (names lens : List ℕ) where
  -- the objects of indices, at their places in a column
  abbrev pub objects : List ℕ → List ℕ → List Obj
  objects places is = map (object_at names places lens) is

  -- their moves from one column to another
  abbrev pub move_at : List ℕ → List ℕ → ℕ → Move
  move_at from to i = record { object = object_at names from lens i; to = get_or to i 0 }

  abbrev pub moves_at : List ℕ → List ℕ → List ℕ → List Move
  moves_at from to is = map (move_at from to) is

  picked_keep : (places : List ℕ) (b : Bool) (i : ℕ) (is : List ℕ)
      → cond b (object_at names places lens i ∷ objects places is) (objects places is) ≡ objects places (keep b i is)
  picked_keep places true i is = refl
  picked_keep places false i is = refl

  pub picked_order : (kinds : List ℕ) (kind : ℕ) (places : List ℕ) (count i m : ℕ)
      → picked kinds kind names places lens i m ≡ objects places (order_from kinds kind false count i m)
  unfolding picked order_from
  picked_order kinds kind places count i zero = refl
  picked_order kinds kind places count i (suc m) =
      rw (picked_order kinds kind places count (suc i) m)
      (picked_keep places (eqb (get_or kinds i 0) kind) i (order_from kinds kind false count (suc i) m))

  pub moves_objects : (from to is : List ℕ) → moves (objects from is) (objects to is) ≡ moves_at from to is
  unfolding moves
  moves_objects from to [] = refl
  moves_objects from to (i ∷ is) = ap (λ (l : List Move). move_at from to i ∷ l) (moves_objects from to is)

  objects_append : (places is js : List ℕ) → objects places (is ++ js) ≡ objects places is ++ objects places js
  objects_append places [] js = refl
  objects_append places (i ∷ is) js = ap (λ (l : List Obj). object_at names places lens i ∷ l) (objects_append places is js)

  pub objects_reverse : (places is : List ℕ) → reverse (objects places is) ≡ objects places (reverse is)
  objects_reverse places [] = refl
  objects_reverse places (i ∷ is) =
      reverse-cons (object_at names places lens i) (objects places is)
      ∙ ap (λ (l : List Obj). l ++ (object_at names places lens i ∷ [])) (objects_reverse places is)
      ∙ sym (ap (objects places) (reverse-cons i is) ∙ objects_append places (reverse is) (i ∷ []))
