-- The keys of a flush's objects: what the column of them says, and that they are few.
use mathlib.Core.Path.{◌≡◌}
use mathlib.Core.List.{List}
use Prim.Native.Nat.{ℕ, zero, suc, ◌+◌, ◌-◌, ◌*◌, ◌≤◌, ◌<◌}
use native.Mathlib.Omega.{arith}
use lib.ListN.{get_or}
use Rattle.rules.specs.House.{classes, longest, most_objects}
use Rattle.rules.specs.Classes.{class_of}
use Rattle.rules.specs.Columns.{of_overflow}
use Rattle.rules.proofs.ClassLaws.{class_bounds}
use Rattle.layout.proofs.Fills.{filled_at}
use Rattle.orders.specs.Orders.{keys, key_of}
use Rattle.flushing.specs.Flushing.{keys_of}

-- what the column says of an object
pub key_at : (kinds lens : List ℕ) (n k : ℕ) → n ≤ most_objects → k < n
    → get_or (keys_of kinds lens n) k 0 ≡ key_of (get_or kinds k 0) (class_of (get_or lens k 0))
unfolding keys_of
key_at kinds lens n k few l = filled_at (λ i. key_of (get_or kinds i 0) (class_of (get_or lens i 0))) n 0 most_objects k (omega arith) l

-- the key of an object that is moved
pub key_of_lem : (kind class : ℕ) → 1 ≤ kind → key_of kind class ≡ 2 * class + (kind - 1) - 1
key_of_lem zero class l = absurd (omega arith)
key_of_lem (suc kind) class l = let e : suc kind - 1 ≡ kind = omega arith in rw e

-- each is one of the keys
key_few : (kind class : ℕ) → kind ≤ of_overflow → 1 ≤ class → class ≤ classes → key_of kind class < keys
key_few zero class f s m = omega arith
key_few (suc kind) class f s m = omega arith

pub keys_few : (kinds lens : List ℕ) (n : ℕ) → n ≤ most_objects → ((k : ℕ) → get_or kinds k 0 ≤ of_overflow)
    → ((k : ℕ) → k < n → (1 ≤ get_or lens k 0) × (get_or lens k 0 ≤ longest))
    → (k : ℕ) → k < n → get_or (keys_of kinds lens n) k 0 < keys
keys_few kinds lens n few kind_few len_fits k l =
    let c = class_bounds (get_or lens k 0) (len_fits k l).0 (len_fits k l).1 in
    rw (key_at kinds lens n k few l) (key_few (get_or kinds k 0) (class_of (get_or lens k 0)) (kind_few k) c.0 c.1)
