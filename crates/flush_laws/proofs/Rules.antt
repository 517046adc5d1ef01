-- What the functions come to by the rules: for the plan that the columns denote, the next move, the waits, the number of moves, and the
-- places. Each is the link of proofs/Link.antt, and then a law by position of proofs/Positions.antt or proofs/Played.antt.
use mathlib.Core.Path.{◌≡◌, sym, ◌∙◌}
use mathlib.Core.Bool.{Bool}
use mathlib.Core.List.{List}
use Prim.Native.Nat.{ℕ, ◌≤◌, ◌<◌}
use lib.Dec.{eqb}
use lib.ListN.{length, get_or}
use Rattle.rules.specs.Flush.{Act, ahead, at_wait, played}
use Rattle.rules.specs.Calls.{next_move, last_ahead}
use Rattle.rules.specs.Sound.{due_fits}
use Rattle.rules.specs.Columns.{of_payload, listed, phases_of, plan_by}
use Rattle.rules.proofs.Facts.{Distinct}
use Rattle.rules.proofs.Plays.{moves_left}
use Rattle.plan.specs.Turns.{moves_of, plan_turns, turn_at, total_moves, run_ends, may_be_due, places_after}
use Rattle.plan.proofs.Whole.{length_plan, plan_each}
use Rattle.flush_laws.proofs.Link.{places_of, plan_acts}
use Rattle.flush_laws.proofs.Positions.{next_acts, wait_acts, last_acts, due_acts, moves_acts}
use Rattle.flush_laws.proofs.Played.{distinct_apart, played_acts, placed_plan}

-- the plan that columns denote
abbrev pub plan_of : List ℕ → List ℕ → List ℕ → List ℕ → List ℕ → List ℕ → ℕ → ℕ → ℕ → List Act
plan_of kinds names starts middles finals lens limit old n = plan_by limit (phases_of kinds names (places_of starts middles finals) lens old n)

-- no object of a payload is longer than the limit
abbrev pub Short : List ℕ → List ℕ → ℕ → ℕ → Type 0
Short kinds lens limit n = (i : ℕ) → i < n → get_or kinds i 0 ≡ of_payload → get_or lens i 0 ≤ limit

module _ (kinds names starts middles finals lens : List ℕ) (limit old n : ℕ) (short : Short kinds lens limit n) where
  -- turn_at: the next move
  pub next_move_lem : (made : ℕ)
      → next_move (ahead (plan_of kinds names starts middles finals lens limit old n) made)
      ≡ moves_of names lens (turn_at kinds starts middles finals lens limit old n made)
  next_move_lem made =
      rw (plan_acts names lens kinds starts middles finals limit old n short)
      (next_acts names lens (plan_turns kinds starts middles finals lens limit old n) made)

  -- run_ends: a wait is next
  pub at_wait_lem : (made : ℕ)
      → at_wait (ahead (plan_of kinds names starts middles finals lens limit old n) made)
      ≡ run_ends (total_moves kinds old n) made (turn_at kinds starts middles finals lens limit old n made)
  at_wait_lem made =
      rw (plan_acts names lens kinds starts middles finals limit old n short, ← length_plan kinds starts middles finals lens limit old n)
      (wait_acts names lens (plan_turns kinds starts middles finals lens limit old n) made)

  -- only the last checkpoint is ahead where all moves are made
  pub last_ahead_lem : (made : ℕ) → last_ahead (ahead (plan_of kinds names starts middles finals lens limit old n) made) ≡ eqb made (total_moves kinds old n)
  last_ahead_lem made =
      rw (plan_acts names lens kinds starts middles finals limit old n short, ← length_plan kinds starts middles finals lens limit old n)
      (last_acts names lens (plan_turns kinds starts middles finals lens limit old n) made)

  -- may_be_due: a checkpoint may be due, or not
  pub due_fits_lem : (made : ℕ) (due : Bool)
      → due_fits (ahead (plan_of kinds names starts middles finals lens limit old n) made) due
      ≡ may_be_due (total_moves kinds old n) made (turn_at kinds starts middles finals lens limit old n made) due
  due_fits_lem made due =
      rw (plan_acts names lens kinds starts middles finals limit old n short, ← length_plan kinds starts middles finals lens limit old n)
      (due_acts names lens due (plan_turns kinds starts middles finals lens limit old n) made)

  -- total_moves: the number of moves
  pub total_moves_lem : moves_left (plan_of kinds names starts middles finals lens limit old n) ≡ total_moves kinds old n
  total_moves_lem =
      rw (plan_acts names lens kinds starts middles finals limit old n short)
      (moves_acts names lens (plan_turns kinds starts middles finals lens limit old n) ∙ length_plan kinds starts middles finals lens limit old n)

  -- places_now: the places after the moves made, where names differ
  pub places_now_lem : old ≤ n → n ≤ length starts → Distinct (listed names starts lens 0 n) → (made : ℕ)
      → listed names (places_after kinds starts middles finals old n made) lens 0 n
      ≡ played (plan_of kinds names starts middles finals lens limit old n) made (listed names starts lens 0 n)
  places_now_lem some_old fit differ made =
      rw (plan_acts names lens kinds starts middles finals limit old n short, placed_plan kinds starts middles finals lens limit old n made)
      (sym (played_acts names lens n (distinct_apart names lens starts n differ) (plan_turns kinds starts middles finals lens limit old n) made starts
      (plan_each kinds starts middles finals lens limit old n (λ t. t.index < n) some_old (λ i h b. h) (λ i h b. h)) fit))
