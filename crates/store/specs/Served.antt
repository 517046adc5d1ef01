-- What the calls hand back, by the rules: the store that a value stands for, and the buffer that a confirmation was lent.
use Rattle.std.specs.Prelude.{ℕ, cond, List, length}
use Rattle.rules.specs.House.{share}
use Rattle.rules.specs.Stores as stores
use Rattle.rules.specs.Answers.{accepted}
use Rattle.rules.specs.Calls.{confirm_of}
use Rattle.mapform.specs.Maps.{map_of, put_into}
use Rattle.state.specs.Model.{model_of}
use Rattle.store.specs.declared.Store.{Store}

-- the store of the rules that a value stands for
abbrev pub model : Store → stores.Store
model s = model_of s.state

-- the buffer lent to a confirmation afterwards: the map of the list at its front, or, where it is refused, the same bytes
unfoldable pub map_into : stores.Store → List ℕ → List ℕ
map_into s buf = cond (accepted (confirm_of s (length buf)).answer) (put_into (map_of (stores.list_now share s)) buf) buf
