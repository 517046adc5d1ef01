-- A step: the tests of the call show a sound value, its own area lent, and nothing due; so a move is next, it stays within the area, and the
-- step's outcome is that move and a flush with one move more made.
use mathlib.Core.Path.{◌≡◌, refl, sym, ap, ◌∙◌}
use mathlib.Core.Logic.{inl, inr}
use mathlib.Core.Bool.{Bool, true, false, not, ◌&&◌, ◌||◌}
use mathlib.Core.List.{List, [], ◌∷◌, ◌++◌}
use Prim.Native.Nat.{ℕ, zero, suc, ◌+◌, ◌*◌, ◌≤◌, ◌<◌}
use native.Mathlib.Omega.{arith}
use lib.Dec.{eqb}
use lib.ListN.{length, get_or, take, drop}
use borrow.Author.Tests.{eqb-true}
use Rattle.std.specs.Prelude.{Option, Some, None, IsSome, IfSome}
use Rattle.rules.specs.House.{share, classes, longest, most_objects}
use Rattle.rules.specs.Flush.{Move, Act, move, wait, plan, ahead}
use Rattle.rules.specs.Stores.{Store, flushing, at_stage, start_in, ahead_of, advanced}
use Rattle.rules.specs.Sound.{sound}
use Rattle.rules.specs.Answers.{first, accepted}
use Rattle.rules.specs.Calls.{storing_at, test, from_refused, due_in, store_tests, next_move, step_in, step_of}
use Rattle.rules.specs.declared.Answer.TheVariants.{Done, Running, Unsound, WrongArea, CheckpointDue}
use Rattle.rules.specs.History.{Every}
use Rattle.rules.proofs.Lists.{clash}
use Rattle.rules.proofs.StepWithin.{MovesBy, moves_within}
use Rattle.rules.proofs.Plays.{moves_left, made_most}
use Rattle.rules.proofs.Plays as plays
use Rattle.rules.proofs.Steps.{Stepped}
use Rattle.rules.proofs.Index.{step_next_law}
use Rattle.plan.specs.declared.Phase.{Phase}
use Rattle.plan.specs.declared.Turn.{Turn}
use Rattle.plan.specs.Turns.{lifting, packing, spreading, settling, keep, order_from, order, index_at, move_of, moves_of, total_moves}
use Rattle.state.specs.declared.State.{State}
use Rattle.state.specs.Model.{rests, old_count, flush_of, model_of}
use Rattle.state.specs.Tests.{layout_in}
use Rattle.state.proofs.Ready.{count_few, length_some}
use Rattle.state.proofs.Told.{limits_sound, runs}
use Rattle.flushing.proofs.Going.{flush_stage, plan_total}

-- no test refuses a step
abbrev pub Passes : Store → ℕ → Type 0
Passes s lent = first (store_tests s lent ++ (test (due_in s.stage) CheckpointDue ∷ [])) ≡ Done

-- what the tests show
record Tested (s : Store) (lent : ℕ) : Type 0 where
  pub is_sound : sound share s ≡ true
  pub own : lent ≡ s.area
  pub early : due_in s.stage ≡ false

pass : (refused ok own due : Bool)
    → first (test (not refused && not ok) Unsound ∷ test (refused || not own) WrongArea ∷ test due CheckpointDue ∷ []) ≡ Done
    → (ok ≡ true) × (own ≡ true) × (due ≡ false)
unfolding first
pass true ok own due e = absurd (clash refl (ap accepted (sym e)))
pass false false own due e = absurd (clash refl (ap accepted (sym e)))
pass false true false due e = absurd (clash refl (ap accepted (sym e)))
pass false true true true e = absurd (clash refl (ap accepted (sym e)))
pass false true true false e = (refl, refl, refl)

tested : (s : Store) (lent : ℕ) → Passes s lent → Tested s lent
tested s lent e =
    let p = pass (from_refused s) (sound share s) (eqb lent s.area) (due_in s.stage) e in
    record { is_sound = p.0; own = eqb-true lent s.area p.1; early = p.2 }

-- what every move of a plan passes, the next one does
each_ahead : (P : Move → Type 0) (acts : List Act) (n : ℕ) → Every P (plays.moves_of acts) → Every P (next_move (ahead acts n))
unfolding plays.moves_of ahead
each_ahead P [] zero h = tt
each_ahead P (move m ∷ acts) zero h = (h.0, tt)
each_ahead P (wait ∷ []) zero h = tt
each_ahead P (wait ∷ wait ∷ acts) zero h = tt
each_ahead P (wait ∷ move m ∷ acts) zero h = (h.0, tt)
each_ahead P [] (suc n) h = tt
each_ahead P (wait ∷ acts) (suc n) h = each_ahead P acts (suc n) h
each_ahead P (move m ∷ acts) (suc n) h = each_ahead P acts n h.1

-- a phase has no more moves than objects
keep_few : (b : Bool) (i m : ℕ) (is : List ℕ) → length is ≤ m → length (keep b i is) ≤ suc m
keep_few true i m is h = omega arith
keep_few false i m is h = omega arith

order_few : (kinds : List ℕ) (kind : ℕ) (falling : Bool) (count i m : ℕ) → length (order_from kinds kind falling count i m) ≤ m
unfolding order_from
order_few kinds kind falling count i zero = omega arith
order_few kinds kind falling count i (suc m) =
    keep_few (eqb (get_or kinds (index_at falling count i) 0) kind) (index_at falling count i) m (order_from kinds kind falling count (suc i) m)
    (order_few kinds kind falling count (suc i) m)

-- so a plan has at most four for each
total_few : (kinds : List ℕ) (old n : ℕ) → old ≤ n → n ≤ most_objects → total_moves kinds old n ≤ 4 * most_objects
total_few kinds old n part few =
    let each : (p : Phase) → length (order kinds p) ≤ p.count = λ p. order_few kinds p.kind p.falling p.count 0 p.count in
    omega (arith, each (lifting old), each (packing n), each (spreading n), each (settling n))

-- a turn whose list holds a move is there, and its move is that one
some_turn : (names lens : List ℕ) (o : Option Turn) (m : Move) → moves_of names lens o ≡ m ∷ [] → IsSome o
some_turn names lens None m e = let z : ◌≡◌ {A = ℕ} 0 1 = cc in absurd (omega arith)
some_turn names lens (Some t) m e = refl

turn_is : (names lens : List ℕ) (t : Turn) (m : Move) → moves_of names lens (Some t) ≡ m ∷ [] → move_of names lens t ≡ m
turn_is names lens t m e = cc

-- what a step comes to
pub record Steps (s : State) (area : List ℕ) (t : Turn) : Type 0 where
  pub index_fits : t.index < most_objects
  pub len_fits : get_or s.objects.lens t.index 0 ≤ longest
  pub from_fits : t.from + get_or s.objects.lens t.index 0 ≤ length area
  pub to_fits : t.to + get_or s.objects.lens t.index 0 ≤ length area
  pub outcome : step_of (model_of s) area
      ≡ storing_at (at_stage (model_of s) (flushing (advanced share (model_of s) (flush_of s)))) Running t.to
      (take (get_or s.objects.lens t.index 0) (drop t.from area))

next_is : (acts : List Act) (m : Move) (rest : List Act) → plays.Next acts m rest → next_move acts ≡ m ∷ []
next_is acts m rest (inl q) = rw q
next_is acts m rest (inr q) = rw q

module _ (s : State) (area : List ℕ) (n : length s.regions.sizes ≡ suc classes) (e : rests s.flush ≡ false)
    (passed : Passes (model_of s) (length area)) where
  shown : Tested (model_of s) (length area)
  shown = tested (model_of s) (length area) passed

  law : Stepped share (model_of s) (flush_of s)
  law = step_next_law share (model_of s) (flush_of s) (flush_stage s e) shown.is_sound (sym (ap due_in (flush_stage s e)) ∙ shown.early)

  -- no more moves are made than the plan has
  made_few : s.flush.made ≤ 4 * most_objects
  made_few =
      let f = flush_of s in
      let r = runs s shown.is_sound n e in
      let l = layout_in s (old_count s) in
      let some : s.flush.made ≤ moves_left (plan share (start_in (model_of s) f)) = elim law.first [
        | inl q ↦ made_most (plan share (start_in (model_of s) f)) s.flush.made (move law.next) law.rest q
        | inr q ↦ made_most (plan share (start_in (model_of s) f)) s.flush.made wait (move law.next ∷ law.rest) q
      ] in
      omega (arith, plan_total s shown.is_sound n e, total_few l.kinds (old_count s) s.count r.is_ready.part r.is_ready.few)

  -- A MOVE CAN BE MADE
  pub can_step : s.flush.made ≤ 4 * most_objects
  can_step = made_few

  -- the next move, by a turn that comes to it
  next_turn : (o : Option Turn) → next_move (ahead_of share (model_of s) (flush_of s)) ≡ moves_of s.objects.names s.objects.lens o
      → moves_of s.objects.names s.objects.lens o ≡ law.next ∷ []
  next_turn o next = sym next ∙ next_is (ahead_of share (model_of s) (flush_of s)) law.next law.rest law.first

  -- A MOVE IS NEXT
  pub turn_there : (o : Option Turn) → next_move (ahead_of share (model_of s) (flush_of s)) ≡ moves_of s.objects.names s.objects.lens o → IsSome o
  turn_there o next = some_turn s.objects.names s.objects.lens o law.next (next_turn o next)

  -- THE STEP that the tests let pass
  pub steps : (o : Option Turn) (t : Turn) → o ≡ Some t → next_move (ahead_of share (model_of s) (flush_of s)) ≡ moves_of s.objects.names s.objects.lens o
      → IfSome o (λ x. x.index < s.count)
      → Steps s area t
  unfolding step_of
  steps o t there next below =
      let f = flush_of s in
      let stage = flush_stage s e in
      let within = each_ahead (MovesBy (model_of s).area) (plan share (start_in (model_of s) f)) f.made
      (moves_within share (model_of s) f (omega arith) stage shown.is_sound) in
      let by = rw (next, there) at within in
      let fits : t.index < s.count = rw there at below in
      let limits = limits_sound s shown.is_sound in
      record {
        index_fits = omega (arith, fits, count_few s limits);
        len_fits = (length_some s limits t.index fits).1;
        from_fits = omega (arith, by.0.1, shown.own);
        to_fits = omega (arith, by.0.0, shown.own);
        outcome = rw passed (ap (step_in share (model_of s) area) stage ∙ law.outcome area
            ∙ rw (← turn_is s.objects.names s.objects.lens t law.next (rw there at (next_turn o next))));
      }
