-- The buffer with room where there is one, and the rules' search, whose 0 stands for none.
use mathlib.Core.Path.{◌≡◌, refl}
use mathlib.Core.Bool.{true, false, cond}
use mathlib.Core.List.{List}
use Prim.Native.Nat.{ℕ, zero, suc, ◌+◌, ◌-◌, ◌≤◌}
use native.Mathlib.Omega.{arith}
use lib.Dec.{leb}
use Rattle.std.specs.Prelude.{Option, None, Some, unwrap_or}
use Rattle.rules.specs.Regions.{col, buffer_size, top_class}
use Rattle.rules.specs.Placing.{room_from, room_for}
use Rattle.leaves.specs.Room.{some_from, some_room}

module _ (q : ℕ) (sizes useds : List ℕ) (n : ℕ) where
  room_given : (j m : ℕ) → unwrap_or (some_from q sizes useds n j m) 0 ≡ room_from q sizes useds n j m
  unfolding some_from room_from
  room_given j zero = refl
  room_given j (suc m) = elim (leb (col useds j + n) (buffer_size q sizes j)) as
      (λ b. unwrap_or (cond b (Some j) (some_from q sizes useds n (suc j) m)) 0 ≡ cond b j (room_from q sizes useds n (suc j) m)) [
        | true ↦ refl
        | false ↦ room_given (suc j) m
      ]

  room_above : (j m i : ℕ) → some_from q sizes useds n j m ≡ Some i → j ≤ i
  unfolding some_from
  room_above j zero i e = cc
  room_above j (suc m) i e = (elim (leb (col useds j + n) (buffer_size q sizes j)) as
      (λ b. ◌≡◌ {A = Option ℕ} (cond b (Some j) (some_from q sizes useds n (suc j) m)) (Some i) → j ≤ i) [
        | true ↦ λ h. let same : j ≡ i = cc in omega arith
        | false ↦ λ h. let next = room_above (suc j) m i h in omega arith
      ]) e

  module _ (c : ℕ) where
    -- one that is found is the rules', and of this class or above
    pub room_some : (i : ℕ) → some_room q sizes useds c n ≡ Some i → (i ≡ room_for q sizes useds c n) × (c ≤ i)
    room_some i e = let g = room_given c (suc (top_class sizes) - c) in (rw e at g, room_above c (suc (top_class sizes) - c) i e)

    -- where none is found the rules say 0
    pub room_none : some_room q sizes useds c n ≡ None → 0 ≡ room_for q sizes useds c n
    room_none e = let g = room_given c (suc (top_class sizes) - c) in rw e at g
