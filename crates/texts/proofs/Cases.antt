-- Worked numbers come out as said: antt computes them all.
use mathlib.Core.Path.{◌≡◌, refl}
use mathlib.Core.List.{[], ◌∷◌}
use Rattle.texts.specs.Numbers.{last_digits, width_in, decimal, hex_of}

-- 0, 65535 and the largest number of 64 bits; two bytes
pub digits_as_said : (decimal 0 ≡ 48 ∷ []) × (decimal 65535 ≡ 54 ∷ 53 ∷ 53 ∷ 51 ∷ 53 ∷ [])
    × (decimal 18446744073709551615
    ≡ 49 ∷ 56 ∷ 52 ∷ 52 ∷ 54 ∷ 55 ∷ 52 ∷ 52 ∷ 48 ∷ 55 ∷ 51 ∷ 55 ∷ 48 ∷ 57 ∷ 53 ∷ 53 ∷ 49 ∷ 54 ∷ 49 ∷ 53 ∷ [])
    × (hex_of (171 ∷ 9 ∷ []) ≡ 65 ∷ 66 ∷ 48 ∷ 57 ∷ [])
unfolding last_digits width_in hex_of
digits_as_said = (refl, refl, refl, refl)
