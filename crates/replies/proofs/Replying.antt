-- The words of an answer line at a buffer's front: bytes in hexadecimal, or a dash.
use mathlib.Core.Path.{◌≡◌}
use mathlib.Core.Bool.{true, false, cond}
use mathlib.Core.List.{List, [], ◌∷◌}
use Prim.Native.Nat.{ℕ, ◌+◌, ◌*◌, ◌≤◌}
use native.Mathlib.Omega.{arith}
use borrow.Author.Tests.{ne_eqb}
use lib.Dec.{eqb}
use lib.ListN.{length}
use Rattle.texts.specs.Numbers.{hex_of, put_into, place_behind}
use Rattle.texts.proofs.Digits.{hex_long}
use Rattle.texts.specs.Fields.{Fronted}
use Rattle.texts.proofs.Fronts.{put_front}
use Rattle.replies.specs.Lines.{hex_word}

-- how long such a word is at most
pub word_short : (bytes : List ℕ) → length (hex_word bytes) ≤ 1 + 2 * length bytes
word_short bytes = elim (eqb (length bytes) 0) as (λ b. length (cond b (45 ∷ []) (hex_of bytes)) ≤ 1 + 2 * length bytes) [
  | true ↦ omega arith
  | false ↦ omega (arith, hex_long bytes)
]

module _ (line bytes : List ℕ) (at next : ℕ) (after : List ℕ) (room : at + (1 + 2 * length bytes) ≤ length line) where
  pub hex_front : (length bytes ≡ 0 → ⊥) → (next ≡ place_behind line at (hex_of bytes)) × (after ≡ put_into line at (hex_of bytes))
      → Fronted line at (hex_word bytes) next after
  hex_front some e = rw (ne_eqb (length bytes) 0 some) (put_front line at (hex_of bytes) next after (omega (arith, hex_long bytes)) e)
