-- The run to rest, turn by turn: what a turn of the code comes to, and what is left of a run.
use mathlib.Core.Path.{◌≡◌, refl, sym, ap, subst, ◌∙◌}
use mathlib.Core.Bool.{Bool, true, false, cond, not, ◌&&◌, ◌||◌}
use mathlib.Core.List.{List, [], ◌∷◌, ◌++◌}
use Prim.Native.Nat.{ℕ, suc, ◌+◌, ◌-◌, ◌≤◌, ◌<◌}
use native.Mathlib.Nat.{add-zero}
use native.Mathlib.Omega.{arith}
use lib.ListN.{length}
use lib.Dec.{eqb}
use borrow.Author.Tests.{eq-eqb, ne_eqb}
use Rattle.rules.specs.House.{share}
use Rattle.rules.specs.Stores.{Store, Stage, resting}
use Rattle.rules.specs.Sound.{sound}
use Rattle.rules.specs.Answers.{first}
use Rattle.rules.specs.Calls.{written, answering, unless_refused, test, from_refused, due_in, store_tests, step_in, step_of, confirm_of}
use Rattle.rules.specs.declared.Answer.{Answer}
use Rattle.rules.specs.declared.Answer.TheVariants.{Done, Running, Unsound, WrongArea, Busy, NameZero, BadLength, NameHeld, NotHeld, Full, OverQuota}
use Rattle.rules.specs.declared.Answer.TheVariants.{CheckpointDue, ShortBuffer, NoMap, BadVersion, BadSize, BadEntry}
use Rattle.to_rest.specs.Runs.{Ran, Turn, is_running, is_awaited, map_room, confirming, stepping, turn_by, turn_of, added, to_rest, fuel, starting}

-- an answer that is neither of the two that a turn goes by
other_answer : (a : Answer) → (a ≡ CheckpointDue → ⊥) → (a ≡ Running → ⊥) → (is_awaited a ≡ false) × (is_running a ≡ false)
other_answer CheckpointDue p q = absurd (p refl)
other_answer Running p q = absurd (q refl)
other_answer Done p q = (refl, refl)
other_answer Unsound p q = (refl, refl)
other_answer WrongArea p q = (refl, refl)
other_answer Busy p q = (refl, refl)
other_answer NameZero p q = (refl, refl)
other_answer BadLength p q = (refl, refl)
other_answer NameHeld p q = (refl, refl)
other_answer NotHeld p q = (refl, refl)
other_answer Full p q = (refl, refl)
other_answer OverQuota p q = (refl, refl)
other_answer ShortBuffer p q = (refl, refl)
other_answer NoMap p q = (refl, refl)
other_answer BadVersion p q = (refl, refl)
other_answer BadSize p q = (refl, refl)
other_answer BadEntry p q = (refl, refl)

-- the turn of a step that gave this answer, store and area: it confirms, it moves, or it does nothing
module _ (s w : Store) (area after : List ℕ) (a : Answer)
    (k : a ≡ (step_of s area).answer) (e : w ≡ (step_of s area).store) (f : after ≡ written area (step_of s area).write) where
  pub turn_confirms : (v : Store) → a ≡ CheckpointDue → v ≡ (confirm_of w map_room).store
      → record { store = v; area = after; moves = 0; waits = 1 } ≡ turn_of s area
  unfolding turn_of
  turn_confirms v awaited c = rw (sym k ∙ awaited, c, e, f)

  pub turn_moves : a ≡ Running → record { store = w; area = after; moves = 1; waits = 0 } ≡ turn_of s area
  unfolding turn_of
  turn_moves running = rw (sym k ∙ running, e, f)

  pub turn_idles : (a ≡ CheckpointDue → ⊥) → (a ≡ Running → ⊥) → record { store = w; area = after; moves = 0; waits = 0 } ≡ turn_of s area
  unfolding turn_of
  turn_idles p q = let o = other_answer a p q in rw (← k, o.0, o.1, e, f)

-- a turn makes one move, or closes one wait, or does nothing
pub turn_few : (s : Store) (area : List ℕ) → (turn_of s area).moves + (turn_of s area).waits ≤ 1
unfolding turn_of
turn_few s area =
    let o = step_of s area in
    elim (is_awaited o.answer) as (λ b. (cond b (confirming o area) (stepping o area)).moves + (cond b (confirming o area) (stepping o area)).waits ≤ 1) [
      | true ↦ omega arith
      | false ↦ elim (is_running o.answer) as (λ b. cond b 1 0 + 0 ≤ 1) [ true ↦ omega arith | false ↦ omega arith ]
    ]

-- a turn that does nothing
abbrev idle_in : Store → List ℕ → Turn
idle_in s area = record { store = s; area = area; moves = 0; waits = 0 }

-- the turn of a store at rest is one, whatever area is lent
rest_idle : (s : Store) (area : List ℕ) → s.stage ≡ resting → turn_of s area ≡ idle_in s area
unfolding turn_of step_of first
rest_idle s area rests = subst (λ (g : Stage).
    turn_by (unless_refused s (first (store_tests s (length area) ++ (test (due_in g) CheckpointDue ∷ []))) (step_in share s area g)) area ≡ idle_in s area)
    (sym rests)
    (by_tests (not (from_refused s) && not (sound share s)) (from_refused s || not (eqb (length area) s.area)))
  where
    by_tests : (x y : Bool) → turn_by (unless_refused s (cond x Unsound (cond y WrongArea Done)) (answering s Done)) area ≡ idle_in s area
    by_tests true y = refl
    by_tests false true = refl
    by_tests false false = refl

-- a run on its way, with turns left: they lead to where all turns lead from its start, and what was done and the turns left are no more than all turns
pub record Onward (start : Ran) (left : ℕ) (r : Ran) : Type 0 where
  pub whole : to_rest left r ≡ to_rest fuel start
  pub few : r.moves + r.waits + left ≤ fuel

pub run_starts : (r : Ran) → r.moves ≡ 0 → r.waits ≡ 0 → Onward r fuel r
run_starts r m w = record { whole = refl; few = omega (arith, m, w) }

-- the next turn of a run: it ends the run if it does nothing, else the run goes on
module _ (n : ℕ) (r : Ran) where
  rest_on : ((turn_of r.store r.area).moves + (turn_of r.store r.area).waits ≡ 0 → ⊥)
      → to_rest (suc n) r ≡ to_rest n (added r (turn_of r.store r.area))
  unfolding to_rest
  rest_on did = rw (ne_eqb ((turn_of r.store r.area).moves + (turn_of r.store r.area).waits) 0 did)

  rest_there : (turn_of r.store r.area).moves + (turn_of r.store r.area).waits ≡ 0 → to_rest (suc n) r ≡ added r (turn_of r.store r.area)
  unfolding to_rest
  rest_there idle = rw (eq-eqb ((turn_of r.store r.area).moves + (turn_of r.store r.area).waits) 0 idle)

module _ {start r : Ran} {left : ℕ} (o : Onward start left r) (k : ℕ) (next : left ≡ suc k) where
  -- a turn that did something
  goes_on : (t : Turn) → t ≡ turn_of r.store r.area → (t.moves + t.waits ≡ 0 → ⊥) → Onward start k (added r t)
  goes_on t e = subst (λ (x : Turn). (x.moves + x.waits ≡ 0 → ⊥) → Onward start k (added r x)) (sym e) (λ did. record {
    whole = sym (rest_on k r did) ∙ ap (λ n. to_rest n r) (sym next) ∙ o.whole;
    few = omega (arith, o.few, turn_few r.store r.area);
  })

  -- one that did nothing ends the run
  ends_there : (t : Turn) → t ≡ turn_of r.store r.area → t.moves + t.waits ≡ 0 → added r t ≡ to_rest fuel start
  ends_there t e = subst (λ (x : Turn). x.moves + x.waits ≡ 0 → added r x ≡ to_rest fuel start) (sym e) (λ idle.
      sym (rest_there k r idle) ∙ ap (λ n. to_rest n r) (sym next) ∙ o.whole)

  -- a move, a wait closed, and nothing
  module _ (w : Store) (area : List ℕ) where
    pub moved_on : record { store = w; area = area; moves = 1; waits = 0 } ≡ turn_of r.store r.area
        → Onward start k (record { store = w; area = area; answer = r.answer; moves = r.moves + 1; waits = r.waits })
    moved_on e = simp add-zero at (goes_on (record { store = w; area = area; moves = 1; waits = 0 }) e (λ z. absurd (omega arith)))

    pub waited_on : record { store = w; area = area; moves = 0; waits = 1 } ≡ turn_of r.store r.area
        → Onward start k (record { store = w; area = area; answer = r.answer; moves = r.moves; waits = r.waits + 1 })
    waited_on e = simp add-zero at (goes_on (record { store = w; area = area; moves = 0; waits = 1 }) e (λ z. absurd (omega arith)))

    pub idled : record { store = w; area = area; moves = 0; waits = 0 } ≡ turn_of r.store r.area
        → record { store = w; area = area; answer = r.answer; moves = r.moves; waits = r.waits } ≡ to_rest fuel start
    idled e = simp add-zero at (ends_there (record { store = w; area = area; moves = 0; waits = 0 }) e refl)

-- a turn that did something, with turns left
pub goes_on_lem : {start r : Ran} {left : ℕ} → Onward start left r → 0 < left → (t : Turn) → t ≡ turn_of r.store r.area
    → (t.moves + t.waits ≡ 0 → ⊥) → Onward start (left - 1) (added r t)
goes_on_lem {start} {r} {left} o some = goes_on o (left - 1) (omega arith)

-- so a run that starts at rest is over
pub rest_over : (s : Store) (area : List ℕ) (a : Answer) → s.stage ≡ resting → starting s area a ≡ to_rest fuel (starting s area a)
rest_over s area a rests = ends_there (run_starts (starting s area a) refl refl) _ refl (idle_in s area) (sym (rest_idle s area rests)) refl

-- with no turn left the run is there
pub ended : {start r : Ran} {left : ℕ} → Onward start left r → left ≤ 0 → r ≡ to_rest fuel start
unfolding to_rest
ended {r = r} {left = left} o none = let z : left ≡ 0 = omega arith in ap (λ n. to_rest n r) (sym z) ∙ o.whole
