-- The buffer with room, where there is one.
use Rattle.std.specs.Prelude.{ℕ, zero, suc, ◌+◌, ◌-◌, cond, List, Option, None, Some, leb}
use Rattle.rules.specs.Regions.{col, buffer_size, top_class}

-- the earliest of the m buffers from j on with n bytes unused
unfoldable pub some_from : ℕ → List ℕ → List ℕ → ℕ → ℕ → ℕ → Option ℕ
some_from q sizes useds n j zero = None
some_from q sizes useds n j (suc m) =
    let next = some_from q sizes useds n (suc j) m in
    cond (leb (col useds j + n) (buffer_size q sizes j)) (Some j) next

-- the earliest buffer from class c up to the top class with room for n. The rules' `room_for` has 0 for none
abbrev pub some_room : ℕ → List ℕ → List ℕ → ℕ → ℕ → Option ℕ
some_room q sizes useds c n = some_from q sizes useds n c (suc (top_class sizes) - c)
