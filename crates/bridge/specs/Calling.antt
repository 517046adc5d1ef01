-- What a call of the code is in a history: the call that it stands for, and how a store and an area stand for a history.
use Rattle.std.specs.Prelude.{◌≡◌, ℕ, List, false, length}
use Rattle.rules.specs.Stores as stores
use Rattle.rules.specs.Answers.{accepted}
use Rattle.rules.specs.Calls.{Outcome, written, open_store}
use Rattle.rules.specs.History as history
use Rattle.store.specs.Served.{model, map_into}
use Rattle.store.specs.declared.Store.{Store}
use Rattle.store.specs.declared.Served.{Served}
use Rattle.bridge.specs.declared.Call.{Call}
use Rattle.bridge.specs.declared.Call.TheVariants.{Insert, Delete, Step, Confirm}

-- the history's call: with so many bytes of the area lent, a page, and a buffer of so much room
abbrev pub call_of : Call → ℕ → List ℕ → ℕ → history.Call
call_of (Insert name) lent page room = history.insert lent name.0 page
call_of (Delete name) lent page room = history.delete name.0
call_of Step lent page room = history.step lent
call_of Confirm lent page room = history.confirm room

-- the buffer afterwards: a confirmation writes the map, every other call leaves it alone
abbrev pub buffer_after : stores.Store → Call → List ℕ → List ℕ
buffer_after s (Insert name) buf = buf
buffer_after s (Delete name) buf = buf
buffer_after s Step buf = buf
buffer_after s Confirm buf = map_into s buf

-- a history has come to this store and this area
pub record StandsAt (h : history.History) (s : Store) (area : List ℕ) : Type 0 where
  pub at_store : h.store ≡ model s
  pub at_area : h.area ≡ area

-- a call handed back, and left in the area, what the history's call comes to
pub record ServedAs (h : history.History) (c : history.Call) (r : Served) (after : List ℕ) : Type 0 where
  pub store : model r.store ≡ (history.serve h c).store
  pub area : after ≡ (history.serve h c).area
  pub answer : r.answer ≡ (history.outcome_of h.store h.area c).answer

-- a run of the code: a store opened for an area of this length, then calls, each on the store last handed back and the area last left
pub data Runs : history.History → Store → List ℕ → Type 0 where
  opens : (area : List ℕ) (r : Served) → model r.store ≡ open_store (length area) → Runs (history.opening area) r.store area
  calls : {h : history.History} {s : Store} {area : List ℕ} (c : history.Call) (r : Served) (after : List ℕ)
      → history.Named c → ServedAs h c r after → Runs h s area → Runs (history.serve h c) r.store after

-- a call did what the rules say of it: the answer, the store, the same one where it is refused, and the area
pub record Did (o : Outcome) (s : Store) (r : Served) (area after : List ℕ) : Type 0 where
  pub answer : r.answer ≡ o.answer
  pub store : model r.store ≡ o.store
  pub refused : accepted r.answer ≡ false → r.store ≡ s
  pub bytes : after ≡ written area o.write
