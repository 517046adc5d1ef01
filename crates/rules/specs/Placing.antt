-- Placing: the buffer that takes an object or a record, and the regions afterwards.
use Rattle.std.specs.Prelude.{ℕ, zero, suc, ◌+◌, ◌-◌, min, cond, List, leb, eqb}
use Rattle.rules.specs.Regions.{Regions, col, column, buffer_size, top_class}

-- the earliest of the m buffers from j on with n bytes unused, or 0
unfoldable pub room_from : ℕ → List ℕ → List ℕ → ℕ → ℕ → ℕ → ℕ
room_from q sizes useds n j zero = 0
room_from q sizes useds n j (suc m) =
    let next = room_from q sizes useds n (suc j) m in
    cond (leb (col useds j + n) (buffer_size q sizes j)) j next

-- the earliest buffer from class c up to the top class with room for n, or 0
abbrev pub room_for : ℕ → List ℕ → List ℕ → ℕ → ℕ → ℕ
room_for q sizes useds c n = room_from q sizes useds n c (suc (top_class sizes) - c)

-- the lower of two classes entered, 0 standing for none
abbrev pub lower_of : ℕ → ℕ → ℕ
lower_of low c = cond (eqb low 0) c (min low c)

-- a column with v at class j
abbrev pub put : ℕ → ℕ → List ℕ → List ℕ
put j v xs = column (λ i. cond (eqb i j) v (col xs i))

-- an object or a record of n bytes and class c uses space in buffer j
abbrev pub entered : Regions → ℕ → ℕ → ℕ → Regions
entered t j c n = record {
  sizes = t.sizes;
  useds = put j (col t.useds j + n) t.useds;
  lowests = put j (lower_of (col t.lowests j) c) t.lowests;
}

-- a class c above the top class gets P = n
abbrev pub raised : Regions → ℕ → ℕ → Regions
raised t c n = record { sizes = put c n t.sizes; useds = t.useds; lowests = t.lowests }
