-- A turn of a session is a turn of law 8: in a sound store with its own area lent it confirms where a checkpoint is due and else moves, and it counts
-- what it did.
use mathlib.Core.Path.{◌≡◌, refl, sym, subst, ◌∙◌}
use mathlib.Core.Bool.{true, false}
use mathlib.Core.List.{List, [], ◌∷◌}
use Prim.Native.Nat.{ℕ, ◌≤◌}
use native.Mathlib.Omega.{arith}
use lib.ListN.{length}
use lib.Seq.{take-length}
use Rattle.rules.specs.House.{share}
use Rattle.rules.specs.Flush.{Move}
use Rattle.rules.specs.Stores.{Store, Stage, resting, flushing, Flush, ahead_of, held_by}
use Rattle.rules.specs.Sound.{sound}
use Rattle.rules.specs.Answers.{first}
use Rattle.rules.specs.Calls.{written, answering, test, running, due_in, next_move, stepped, step_in, step_of, confirm_of, map_size}
use Rattle.rules.specs.History.{Call, step, confirm, outcome_of, Named}
use Rattle.rules.specs.declared.Answer.TheVariants.{CheckpointDue}
use Rattle.rules.proofs.Facts.{limits_facts}
use Rattle.rules.proofs.Starts.{sound_parts}
use Rattle.rules.proofs.History.{call_keeps, call_area, call_writes}
use Rattle.rules.proofs.ConfirmKept.{confirm_keeps}
use Rattle.rules.proofs.Cuts.{written_length}
use Rattle.rules.proofs.Turns.{turned, step_taken, wait_closed, on_turn}
use Rattle.rules.proofs.CallTurns.{own_tests, step_turns, confirm_turns}
use Rattle.to_rest.specs.Runs.{Turn, is_running, is_awaited, map_room, turn_of}

-- a sound store, and an area as long as its own
pub record Fit (s : Store) (area : List ℕ) : Type 0 where
  pub is_sound : sound share s ≡ true
  pub own : length area ≡ s.area

-- a call keeps a store fit
pub call_fit : (s : Store) (area : List ℕ) (c : Call) → Named c → Fit s area
    → Fit (outcome_of s area c).store (written area (outcome_of s area c).write)
call_fit s area c named f = record {
  is_sound = call_keeps s area c named f.is_sound;
  own = written_length area (outcome_of s area c).write (omega (arith, call_writes s area c named, f.own)) ∙ f.own ∙ sym (call_area s area c named);
}

-- what a turn comes to: the store of law 8's turn, what that turn does, and a fit store
pub record Turned (s : Store) (area : List ℕ) (t : Turn) : Type 0 where
  pub store : t.store ≡ turned share s s.stage (on_turn s.stage area)
  pub moves : t.moves ≡ step_taken s.stage (on_turn s.stage area)
  pub waits : t.waits ≡ wait_closed s.stage (on_turn s.stage area)
  pub fit : Fit t.store t.area

module _ (s : Store) (area : List ℕ) (f : Fit s area) where
  few : map_size (length (held_by s)) ≤ map_room
  few = omega (arith, (limits_facts share s.area (held_by s) (sound_parts share s s.stage refl f.is_sound).0).few)

  step_fit : Fit (step_of s area).store (written area (step_of s area).write)
  step_fit =
      subst (λ (xs : List ℕ). Fit (step_of s xs).store (written area (step_of s xs).write)) (take-length area) (call_fit s area (step (length area)) tt f)

  confirm_fit : Fit (confirm_of s map_room).store area
  confirm_fit = record { is_sound = confirm_keeps s map_room f.is_sound; own = f.own ∙ sym (call_area s area (confirm map_room) tt) }

  -- where a checkpoint is due, a step is refused for that
  refuses : due_in s.stage ≡ true → step_of s area ≡ answering s CheckpointDue
  unfolding step_of first
  refuses d = rw (own_tests s (length area) (test (due_in s.stage) CheckpointDue ∷ []) f.is_sound f.own, d)

  -- where none is, it is not, and tells whether a flush runs
  tells : due_in s.stage ≡ false → (is_awaited (step_of s area).answer ≡ false) × (is_running (step_of s area).answer ≡ running s.stage)
  unfolding step_of first
  tells early =
      rw (own_tests s (length area) (test (due_in s.stage) CheckpointDue ∷ []) f.is_sound f.own, early) (by_stage s.stage)
    where
      by_move : (g : Flush) (ms : List Move)
          → (is_awaited (stepped share s g area ms).answer ≡ false) × (is_running (stepped share s g area ms).answer ≡ true)
      by_move g [] = (refl, refl)
      by_move g (m ∷ ms) = (refl, refl)

      by_stage : (g : Stage) → (is_awaited (step_in share s area g).answer ≡ false) × (is_running (step_in share s area g).answer ≡ running g)
      by_stage resting = (refl, refl)
      by_stage (flushing g) = by_move g (next_move (ahead_of share s g))

  -- A TURN of a session is one of law 8
  pub turn_is : Turned s area (turn_of s area)
  unfolding turn_of
  turn_is = (elim (due_in s.stage) as (λ b. due_in s.stage ≡ b → Turned s area (turn_of s area)) [
    | true ↦ λ d. rw (refuses d) (record {
      store = confirm_turns s map_room f.is_sound few ∙ rw d;
      moves = rw d;
      waits = rw d (rw d);
      fit = confirm_fit;
    })
    | false ↦ λ d. rw (tells d).0 (record {
      store = step_turns s area f.is_sound f.own ∙ rw d (rw d);
      moves = rw ((tells d).1, d) (rw d);
      waits = rw d;
      fit = step_fit;
    })
  ]) refl
