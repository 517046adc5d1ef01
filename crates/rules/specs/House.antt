-- The house numbers, each in one place.
use Rattle.std.specs.Prelude.{ℕ, ◌+◌, ◌-◌, ◌*◌, ◌/◌, Bool, ◌&&◌, leb}

-- a buffer is one part in `share` of its payload
abbrev pub share : ℕ
share = 4

-- the number of classes
abbrev pub classes : ℕ
classes = 12

-- the longest length of an object
abbrev pub longest : ℕ
longest = 4095

-- the most objects that live at once
abbrev pub most_objects : ℕ
most_objects = 256

-- the greatest name
abbrev pub most_name : ℕ
most_name = 65535

-- the least length of an area
abbrev pub least_area : ℕ
least_area = 16384

-- the most
abbrev pub most_area : ℕ
most_area = 65536

-- an area's length is within its limits
abbrev pub area_fits : ℕ → Bool
area_fits a = leb least_area a && leb a most_area

-- the quota of live volume in an area of length a, at the share 1/q and the longest length l
unfoldable pub quota_of : ℕ → ℕ → ℕ → ℕ
quota_of q l a = (q - 1) * (a - 2 * l) / (q + 3)

-- the bytes of a map before its entries: mark, version and count
abbrev pub head_size : ℕ
head_size = 7

-- the bytes of an entry: name, address and length
abbrev pub entry_size : ℕ
entry_size = 6
