-- What the values of this crate stand for, with the bytes of the area beside them.
use Rattle.std.specs.Prelude.{◌≡◌, ℕ, List}
use Rattle.rules.specs.Stores.{resting}
use Rattle.rules.specs.Answers.{number_of}
use Rattle.store.specs.Served.{model}
use Rattle.store.specs.declared.Served.{Served}
use Rattle.to_rest.specs.Runs as runs
use Rattle.to_rest.specs.declared.Ran.{Ran}
use Rattle.to_rest.specs.declared.Did.{Did}
use Rattle.to_rest.specs.declared.Did.TheVariants.{Move, Wait, Nothing}
use Rattle.to_rest.specs.declared.Turned.{Turned}

-- a request that was served
abbrev pub ran_in : Ran → List ℕ → runs.Ran
ran_in r area = record { store = model r.store; area = area; answer = r.answer; moves = r.moves; waits = r.waits }

-- how many moves a turn made
abbrev pub moves_by : Did → ℕ
moves_by Move = 1
moves_by Wait = 0
moves_by Nothing = 0

-- how many waits it closed
abbrev pub waits_by : Did → ℕ
waits_by Move = 0
waits_by Wait = 1
waits_by Nothing = 0

-- a turn
abbrev pub turn_in : Turned → List ℕ → runs.Turn
turn_in t area = record { store = model t.store; area = area; moves = moves_by t.did; waits = waits_by t.did }

-- a run before its first turn
abbrev pub starting_in : Served → Ran
starting_in b = record { store = b.store; answer = b.answer; moves = 0; waits = 0 }

-- a call that was done at once left the store at rest
abbrev pub RestsIfDone : Served → Type 0
RestsIfDone b = number_of b.answer ≡ 0 → (model b.store).stage ≡ resting
