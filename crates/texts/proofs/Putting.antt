-- Text in a buffer: where it does not fit, nothing changes.
use mathlib.Core.Path.{◌≡◌, refl, sym, ◌∙◌}
use mathlib.Core.Bool.{Bool, true, false}
use mathlib.Core.List.{List}
use Prim.Native.Nat.{ℕ, ◌+◌, ◌≤◌, ◌<◌}
use borrow.Author.Tests.{lt-leb, leb-true, leb-false}
use lib.ListN.{length}
use lib.Dec.{leb}
use Rattle.texts.specs.Numbers.{put_into, place_behind}

-- the test of room, both ways
pub room_for : (t : Bool) (room at size : ℕ) → t ≡ leb (at + size) room → t ≡ true → at + size ≤ room
room_for t room at size e h = leb-true (at + size) room (sym e ∙ h)

pub room_not : (t : Bool) (room at size : ℕ) → t ≡ leb (at + size) room → t ≡ false → room < at + size
room_not t room at size e h = leb-false (at + size) room (sym e ∙ h)

-- a text that does not fit
pub put_none : (out text : List ℕ) (at : ℕ) → length out < at + length text → (at ≡ place_behind out at text) × (out ≡ put_into out at text)
put_none out text at no_room = rw (lt-leb (at + length text) (length out) no_room) (refl, refl)
