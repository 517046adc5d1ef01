-- A run comes to rest. By law 8 each turn that does something leaves one turn less to do, and one that does nothing finds the store at rest; so the
-- moves and waits that a run counts are all that were to be done, and the house numbers give turns enough.
use mathlib.Core.Path.{◌≡◌, refl, sym, ap, ◌∙◌}
use mathlib.Core.Bool.{true, false, cond}
use mathlib.Core.List.{List, [], ◌∷◌}
use Prim.Native.Nat.{ℕ, zero, suc, ◌+◌, ◌≤◌}
use native.Mathlib.Omega.{arith}
use lib.Dec.{eqb}
use borrow.Author.Tests.{eqb-true, eqb-false}
use Rattle.rules.specs.House.{share}
use Rattle.rules.specs.Stores.{Store, Stage, resting, flushing}
use Rattle.rules.specs.Sound.{sound}
use Rattle.rules.specs.Sums.{waits_in}
use Rattle.rules.proofs.Plays.{moves_left}
use Rattle.rules.proofs.Steps.{todo_at, sound_on}
use Rattle.rules.proofs.Turns.{turned, after_turns, step_taken, wait_closed, on_turn, tally, all_turns, rests_after}
use Rattle.to_rest.specs.Runs.{Ran, Turn, turn_of, added, to_rest, fuel}
use Rattle.to_rest.proofs.Sizes.{fuel_enough}
use Rattle.to_rest.proofs.Turning.{Fit, turn_is}

-- the moves and the waits yet to be done in a store
abbrev pub moves_due : Store → ℕ
moves_due s = moves_left (todo_at share s s.stage)

abbrev pub waits_due : Store → ℕ
waits_due s = waits_in (todo_at share s s.stage)

-- the end of a run: at rest, with all counted that was to be done
pub record Rested (r e : Ran) : Type 0 where
  pub rests : e.store.stage ≡ resting
  pub answer : e.answer ≡ r.answer
  pub moves : e.moves ≡ r.moves + moves_due r.store
  pub waits : e.waits ≡ r.waits + waits_due r.store
  pub fit : Fit e.store e.area

-- where nothing is to be done, the store is at rest
nothing_due : (s : Store) → sound share s ≡ true → moves_due s ≡ 0 → waits_due s ≡ 0 → s.stage ≡ resting
unfolding tally after_turns
nothing_due s holds m w = (rests_after share s (sound_on share s holds) []).1 (sym m) (sym w)

-- one turn, counted
record Went (s : Store) (t : Turn) : Type 0 where
  pub moves : moves_due s ≡ t.moves + moves_due t.store
  pub waits : waits_due s ≡ t.waits + waits_due t.store
  pub idle : t.moves + t.waits ≡ 0 → t.store.stage ≡ resting

went : (s : Store) (area : List ℕ) → Fit s area → Went s (turn_of s area)
unfolding tally after_turns
went s area f =
    let t = turn_is s area f in
    let c = all_turns share s (on_turn s.stage area ∷ []) (sound_on share s f.is_sound) in
    record {
      moves = omega (arith, c.moves, t.moves, ap moves_due t.store);
      waits = omega (arith, c.waits, t.waits, ap waits_due t.store);
      idle = λ e. ap (λ (w : Store). w.stage) t.store ∙ stays s.stage refl (omega (arith, e, t.moves, t.waits));
    }
  where
    stays : (g : Stage) → s.stage ≡ g → step_taken g (on_turn g area) + wait_closed g (on_turn g area) ≡ 0
        → (turned share s g (on_turn g area)).stage ≡ resting
    stays resting rests e = rests
    stays (flushing g) runs e = absurd ((elim g.due as (λ b. g.due ≡ b → ⊥) [
      | true ↦ λ d. omega (arith, rw d at e)
      | false ↦ λ d. omega (arith, rw d at e)
    ]) refl)

-- A RUN of enough turns comes to rest
pub run_rests : (n : ℕ) (r : Ran) → Fit r.store r.area → moves_due r.store + waits_due r.store ≤ n → Rested r (to_rest n r)
unfolding to_rest moves_left waits_in
run_rests zero r f l = record {
  rests = nothing_due r.store f.is_sound (omega arith) (omega arith);
  answer = refl;
  moves = omega arith;
  waits = omega arith;
  fit = f;
}
run_rests (suc n) r f l =
    let t = turn_of r.store r.area in
    let a = turn_is r.store r.area f in
    let w = went r.store r.area f in
    elim (eqb (t.moves + t.waits) 0) as (λ b. eqb (t.moves + t.waits) 0 ≡ b → Rested r (cond b (added r t) (to_rest n (added r t)))) [
      | true ↦ λ e. let z = w.idle (eqb-true (t.moves + t.waits) 0 e) in record {
        rests = z;
        answer = refl;
        moves = omega (arith, w.moves, ap (λ g. moves_left (todo_at share t.store g)) z);
        waits = omega (arith, w.waits, ap (λ g. waits_in (todo_at share t.store g)) z);
        fit = a.fit;
      }
      | false ↦ λ e. let k = run_rests n (added r t) a.fit (omega (arith, w.moves, w.waits, some (t.moves + t.waits) e)) in record {
        rests = k.rests;
        answer = k.answer;
        moves = omega (arith, k.moves, w.moves);
        waits = omega (arith, k.waits, w.waits);
        fit = k.fit;
      }
    ] refl
  where
    some : (m : ℕ) → eqb m 0 ≡ false → 1 ≤ m
    some zero e = absurd (eqb-false 0 0 e refl)
    some (suc m) e = omega arith

-- so a run with all the turns that the house numbers give does
pub comes_to_rest : (r : Ran) → Fit r.store r.area → Rested r (to_rest fuel r)
comes_to_rest r f = run_rests fuel r f (fuel_enough r.store f.is_sound)
