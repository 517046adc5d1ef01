-- How large keys get, and how long their columns are: a class is at most one past the last, a kind one of three, and a slot one of 3 times the classes.
use mathlib.Core.Path.{◌≡◌, ap, ◌∙◌}
use mathlib.Core.Bool.{true, false, cond}
use mathlib.Core.List.{List}
use Prim.Native.Nat.{ℕ, zero, suc, ◌^◌, ◌≤◌, ◌<◌}
use native.Mathlib.Omega.{arith}
use lib.Dec.{leb, ltb}
use lib.ListN.{length, get_or}
use borrow.Author.Tests.{le-ltb}
use Rattle.rules.specs.House.{share, classes, most_objects}
use Rattle.rules.specs.Classes.{class_from, class_of}
use Rattle.rules.specs.Regions.{col, start_of}
use Rattle.rules.specs.Columns.{stays, of_payload, of_overflow}
use Rattle.rules.proofs.ClassLaws.{class_few}
use Rattle.layout.specs.Layout.{classes_of, in_payload_at, old_kind, kinds_of, slot_of, slots_of, slot_count, sizes_by}
use Rattle.layout.proofs.Fills.{cond_few, filled_few, filled_at, table_length}

-- classes, kinds and slots are few in their columns
pub classes_few : (lens : List ℕ) (n : ℕ) (cs : List ℕ) → cs ≡ classes_of lens n → (k : ℕ) → get_or cs k 0 ≤ suc classes
unfolding classes_of
classes_few lens n cs e k =
    rw e (filled_few (λ i. class_of (get_or lens i 0)) n 0 most_objects (suc classes) (λ i. class_few (get_or lens i 0)) (omega arith) k)

kind_few : (sizes : List ℕ) (b at len : ℕ) → old_kind sizes b at len ≤ of_overflow
kind_few sizes b at len =
    cond_few (leb (start_of share sizes b) at) (cond (in_payload_at sizes at len) of_payload of_overflow) stays of_overflow
    (cond_few (in_payload_at sizes at len) of_payload of_overflow of_overflow (omega arith) (omega arith)) (omega arith)

pub kinds_few : (sizes : List ℕ) (b : ℕ) (places lens : List ℕ) (old : ℕ) (kinds : List ℕ) → kinds ≡ kinds_of sizes b places lens old
    → (k : ℕ) → get_or kinds k 0 ≤ of_overflow
unfolding kinds_of
kinds_few sizes b places lens old kinds e k =
    rw e (filled_few (λ i. old_kind sizes b (get_or places i 0) (get_or lens i 0)) old of_overflow most_objects of_overflow
    (λ i. kind_few sizes b (get_or places i 0) (get_or lens i 0)) (omega arith) k)

pub slots_few : (kinds cs : List ℕ) (n : ℕ) → ((k : ℕ) → get_or kinds k 0 ≤ of_overflow) → ((k : ℕ) → get_or cs k 0 ≤ suc classes)
    → (slots : List ℕ) → slots ≡ slots_of kinds cs n
    → (k : ℕ) → get_or slots k 0 < slot_count
unfolding slots_of
slots_few kinds cs n p q slots e k =
    rw e (omega (arith, filled_few (λ i. slot_of (get_or kinds i 0) (get_or cs i 0)) n 0 most_objects 41 (λ i. omega (arith, p i, q i)) (omega arith) k))

class_past : (n m i : ℕ) → i ≤ class_from n i m
unfolding class_from
class_past n zero i = omega arith
class_past n (suc m) i = elim (ltb n (2 ^ i)) as
    (λ t. i ≤ cond t i (class_from n (suc i) m)) [ true ↦ omega arith | false ↦ omega (arith, class_past n m (suc i)) ]

-- a length with any bytes is of class 1 or above
pub class_some : (n : ℕ) → 1 ≤ n → 1 ≤ class_of n
unfolding class_of class_from
class_some n l = rw (le-ltb n 1 l) (class_past n classes 1)

-- what a class column says of an object
pub class_at : (lens : List ℕ) (n j : ℕ) → n ≤ most_objects → j < n → get_or (classes_of lens n) j 0 ≡ class_of (get_or lens j 0)
unfolding classes_of
class_at lens n j few l = filled_at (λ i. class_of (get_or lens i 0)) n 0 most_objects j (omega arith) l

-- the lengths of the columns
pub kinds_length : (sizes : List ℕ) (b : ℕ) (places lens : List ℕ) (old : ℕ) (kinds : List ℕ) → kinds ≡ kinds_of sizes b places lens old
    → length kinds ≡ most_objects
unfolding kinds_of
kinds_length sizes b places lens old kinds e =
    ap length e ∙ table_length (λ i. cond (ltb i old) (old_kind sizes b (get_or places i 0) (get_or lens i 0)) of_overflow) 0 most_objects

pub sizes_length : (sizes : List ℕ) (b : ℕ) (volumes news : List ℕ) → news ≡ sizes_by sizes b volumes → length news ≡ suc classes
unfolding sizes_by
sizes_length sizes b volumes news e = ap length e ∙ table_length (λ i. cond (ltb i b) (col sizes i) (col volumes i)) 0 (suc classes)
