-- The desk of `drill` as a history over the area opened.
use Rattle.std.specs.Prelude.{◌≡◌, ℕ, ◌≤◌, min, Bool, true, false, cond, List, [], ◌∷◌, leb, length, take, replicate, Option, Some, None}
use Rattle.rules.specs.History.{Call, insert, delete, step, confirm, History}
use Rattle.lines.specs.declared.Drill.{Drill}
use Rattle.lines.specs.declared.Drill.TheVariants.{Open, Lend, Insert, Delete, Step, Confirm, Find, Read, Sum}
use Rattle.lines.specs.Requests.{most_room}
use Rattle.desks.specs.Desks.{Desk}

-- how many bytes of the area opened a desk lends: none where it lends more than was opened
abbrev pub lent_in : Desk → ℕ
lent_in d = let k = length (take d.lent d.area) in cond (leb k d.opened) k 0

-- the calls that a request makes of the store, as a history has them
abbrev pub calls_in : Desk → Option Drill → List Call
calls_in d (Some (Open n)) = []
calls_in d (Some (Lend n)) = []
calls_in d (Some (Insert name len byte)) = insert (lent_in d) name (replicate len byte) ∷ []
calls_in d (Some (Delete name)) = delete name ∷ []
calls_in d (Some Step) = step (lent_in d) ∷ []
calls_in d (Some (Confirm n)) = confirm (min n most_room) ∷ []
calls_in d (Some (Find name)) = []
calls_in d (Some (Read name)) = []
calls_in d (Some Sum) = []
calls_in d None = []

-- a history has come to a desk: to its store, and to the bytes of the area opened
pub record ComeTo (h : History) (d : Desk) : Type 0 where
  pub at_store : h.store ≡ d.store
  pub at_area : h.area ≡ take d.opened d.area
  pub own : d.store.area ≤ d.opened
  pub within : d.opened ≤ length d.area

-- a request that opens
abbrev pub opens : Option Drill → Bool
opens (Some (Open n)) = true
opens (Some (Lend n)) = false
opens (Some (Insert name len byte)) = false
opens (Some (Delete name)) = false
opens (Some Step) = false
opens (Some (Confirm n)) = false
opens (Some (Find name)) = false
opens (Some (Read name)) = false
opens (Some Sum) = false
opens None = false
