-- What is ahead in a plan of turns, by position. After m moves the acts of the turns from number m on are ahead, with a wait before them if
-- turn number m begins a run; so what the rules ask of the acts ahead is told by turn number m and the number of turns.
use mathlib.Core.Path.{◌≡◌, refl, sym, ap, ◌∙◌}
use mathlib.Core.Bool.{Bool, true, false, cond, not}
use mathlib.Core.List.{List, [], ◌∷◌}
use Prim.Native.Nat.{ℕ, zero, suc}
use lib.Dec.{ltb, eqb, leb-suc-suc, leb-suc-zero, leb-zero, eqb-zero-suc, eqb-suc-zero, eqb-suc-suc}
use lib.ListN.{length}
use Rattle.rules.specs.Flush.{Act, Move, move, close_unless, or_wait, ahead, at_wait}
use Rattle.rules.specs.Calls.{next_move, last_ahead}
use Rattle.rules.specs.Sound.{due_fits}
use Rattle.rules.proofs.Plays.{moves_left}
use Rattle.std.specs.Option.{option_map_or}
use Rattle.plan.specs.declared.Turn.{Turn}
use Rattle.plan.specs.Turns.{move_of, moves_of, nth_turn, run_ends, may_be_due}
use Rattle.flush_laws.proofs.Link.{later, acts}

moves_close : (b : Bool) (m : Move) (xs : List Act) → moves_left (close_unless b (move m ∷ xs)) ≡ suc (moves_left xs)
unfolding moves_left
moves_close true m xs = refl
moves_close false m xs = refl

module _ (names lens : List ℕ) where
  ahead_close : (b : Bool) (m : Move) (xs : List Act) (k : ℕ) → ahead (close_unless b (move m ∷ xs)) (suc k) ≡ ahead xs k
  unfolding ahead
  ahead_close true m xs k = refl
  ahead_close false m xs k = refl

  next_close : (b : Bool) (m : Move) (xs : List Act) → next_move (close_unless b (move m ∷ xs)) ≡ m ∷ []
  next_close true m xs = refl
  next_close false m xs = refl

  next_later : (ts : List Turn) (k : ℕ) → next_move (ahead (later names lens ts) k) ≡ moves_of names lens (nth_turn ts k)
  unfolding later ahead
  next_later [] zero = refl
  next_later [] (suc k) = refl
  next_later (t ∷ ts) zero = next_close (not t.begins) (move_of names lens t) (later names lens ts)
  next_later (t ∷ ts) (suc k) = ap next_move (ahead_close (not t.begins) (move_of names lens t) (later names lens ts) k) ∙ next_later ts k

  pub next_acts : (ts : List Turn) (m : ℕ) → next_move (ahead (or_wait (acts names lens ts)) m) ≡ moves_of names lens (nth_turn ts m)
  unfolding ahead
  next_acts [] zero = refl
  next_acts [] (suc k) = refl
  next_acts (t ∷ ts) zero = refl
  next_acts (t ∷ ts) (suc k) = next_later ts k

  wait_close : (b : Bool) (m : Move) (xs : List Act) → at_wait (close_unless (not b) (move m ∷ xs)) ≡ b
  wait_close true m xs = refl
  wait_close false m xs = refl

  wait_later : (ts : List Turn) (k : ℕ)
      → at_wait (ahead (later names lens ts) k) ≡ cond (eqb k (length ts)) true (option_map_or (λ t. t.begins) (nth_turn ts k) false)
  unfolding later ahead
  wait_later [] zero = refl
  wait_later [] (suc k) = rw (eqb-suc-zero k)
  wait_later (t ∷ ts) zero = rw (eqb-zero-suc (length ts)) (wait_close t.begins (move_of names lens t) (later names lens ts))
  wait_later (t ∷ ts) (suc k) =
      rw (eqb-suc-suc k (length ts)) (ap at_wait (ahead_close (not t.begins) (move_of names lens t) (later names lens ts) k) ∙ wait_later ts k)

  pub wait_acts : (ts : List Turn) (m : ℕ) → at_wait (ahead (or_wait (acts names lens ts)) m) ≡ run_ends (length ts) m (nth_turn ts m)
  unfolding ahead
  wait_acts [] zero = refl
  wait_acts [] (suc k) = rw (eqb-suc-zero k)
  wait_acts (t ∷ ts) zero = rw (eqb-zero-suc (length ts))
  wait_acts (t ∷ ts) (suc k) = rw (eqb-suc-suc k (length ts), eqb-suc-zero k) (wait_later ts k)

  last_behind : (x : Act) (ts : List Turn) → last_ahead (x ∷ later names lens ts) ≡ false
  unfolding later
  last_behind x [] = refl
  last_behind x (t ∷ ts) = elim (not t.begins) as (λ b. last_ahead (x ∷ close_unless b (move (move_of names lens t) ∷ later names lens ts)) ≡ false) [
    | true ↦ refl
    | false ↦ refl
  ]

  last_close : (b : Bool) (m : Move) (ts : List Turn) → last_ahead (close_unless b (move m ∷ later names lens ts)) ≡ false
  last_close true m ts = last_behind (move m) ts
  last_close false m ts = refl

  last_later : (ts : List Turn) (k : ℕ) → last_ahead (ahead (later names lens ts) k) ≡ eqb k (length ts)
  unfolding later ahead
  last_later [] zero = refl
  last_later [] (suc k) = sym (eqb-suc-zero k)
  last_later (t ∷ ts) zero = last_close (not t.begins) (move_of names lens t) ts ∙ sym (eqb-zero-suc (length ts))
  last_later (t ∷ ts) (suc k) =
      ap last_ahead (ahead_close (not t.begins) (move_of names lens t) (later names lens ts) k) ∙ last_later ts k ∙ sym (eqb-suc-suc k (length ts))

  pub last_acts : (ts : List Turn) (m : ℕ) → last_ahead (ahead (or_wait (acts names lens ts)) m) ≡ eqb m (length ts)
  unfolding ahead
  last_acts [] zero = refl
  last_acts [] (suc k) = sym (eqb-suc-zero k)
  last_acts (t ∷ ts) zero = last_behind (move (move_of names lens t)) ts ∙ sym (eqb-zero-suc (length ts))
  last_acts (t ∷ ts) (suc k) = last_later ts k ∙ sym (eqb-suc-suc k (length ts))

  module _ (due : Bool) where
    due_close : (b : Bool) (m : Move) (xs : List Act) → due_fits (close_unless (not b) (move m ∷ xs)) due ≡ cond b true (not due)
    due_close true m xs = refl
    due_close false m xs = refl

    due_later : (ts : List Turn) (k : ℕ)
        → due_fits (ahead (later names lens ts) k) due
        ≡ cond (eqb k (length ts)) due (cond (ltb (length ts) k) false (cond
        (cond (eqb k (length ts)) true (option_map_or (λ t. t.begins) (nth_turn ts k) false)) true (not due)))
    unfolding later ahead
    due_later [] zero = refl
    due_later [] (suc k) = rw (eqb-suc-zero k, leb-suc-suc 0 k, leb-zero k)
    due_later (t ∷ ts) zero =
        rw (eqb-zero-suc (length ts), leb-suc-zero (suc (length ts))) (due_close t.begins (move_of names lens t) (later names lens ts))
    due_later (t ∷ ts) (suc k) =
        rw (eqb-suc-suc k (length ts), leb-suc-suc (suc (length ts)) k)
        (ap (λ (l : List Act). due_fits l due) (ahead_close (not t.begins) (move_of names lens t) (later names lens ts) k) ∙ due_later ts k)

    pub due_acts : (ts : List Turn) (m : ℕ) → due_fits (ahead (or_wait (acts names lens ts)) m) due ≡ may_be_due (length ts) m (nth_turn ts m) due
    unfolding ahead
    due_acts [] zero = refl
    due_acts [] (suc k) = rw (eqb-suc-zero k, leb-suc-suc 0 k, leb-zero k)
    due_acts (t ∷ ts) zero = rw (eqb-zero-suc (length ts), leb-suc-zero (suc (length ts)))
    due_acts (t ∷ ts) (suc k) = rw (eqb-suc-suc k (length ts), leb-suc-suc (suc (length ts)) k, eqb-suc-zero k) (due_later ts k)

  -- the number of moves
  moves_later : (ts : List Turn) → moves_left (later names lens ts) ≡ length ts
  unfolding later moves_left
  moves_later [] = refl
  moves_later (t ∷ ts) = moves_close (not t.begins) (move_of names lens t) (later names lens ts) ∙ ap suc (moves_later ts)

  pub moves_acts : (ts : List Turn) → moves_left (or_wait (acts names lens ts)) ≡ length ts
  unfolding moves_left
  moves_acts [] = refl
  moves_acts (t ∷ ts) = ap suc (moves_later ts)
