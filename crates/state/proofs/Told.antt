-- What soundness gives: a running flush is ready for its layout, and starts as the columns say; so the rules' footprint, list and plan are
-- those of the columns. Each is soundness by the columns, then the laws of the layout and of its turns.
use mathlib.Core.Path.{◌≡◌, refl, sym, ap, ◌∙◌}
use mathlib.Core.Bool.{true, false, cond, ◌&&◌}
use Prim.Native.Nat.{ℕ, suc, ◌-◌, ◌≤◌}
use native.Mathlib.Omega.{arith}
use lib.Dec.{leb, eqb}
use lib.ListN.{length, get_or}
use borrow.Author.Tests.{leb-true, eqb-false}
use Rattle.rules.specs.House.{share, classes, longest}
use Rattle.rules.specs.Regions.{footprint}
use Rattle.rules.specs.Flush.{live, plan, ahead, at_wait, overflow_end}
use Rattle.rules.specs.Stores.{resting, flushing, start_in, footprint_at, list_at, list_now, held_at, held_by}
use Rattle.rules.specs.Calls.{next_move, last_ahead}
use Rattle.rules.specs.Sound.{sound}
use Rattle.rules.proofs.Lists.{clash, and_true}
use Rattle.rules.proofs.Facts.{rest_facts}
use Rattle.edits.specs.Edits.{objects}
use Rattle.layout.specs.declared.Layout.{Layout}
use Rattle.flush_laws.proofs.Laid.{plan_laid}
use Rattle.flush_laws.proofs.Picks.{listed_parts}
use Rattle.plan.specs.declared.Ahead.{Ahead}
use Rattle.plan.specs.Turns.{moves_of, run_ends}
use Rattle.flush_laws.proofs.Rules.{next_move_lem, at_wait_lem, last_ahead_lem, places_now_lem}
use Rattle.state.specs.declared.State.{State}
use Rattle.state.specs.Model.{sizes_in, regions_in, rests, old_count, flush_of, model_of}
use Rattle.state.specs.Tests.{limits_in, rules_in, quota_in, boundary_in, start_at, plan_in, flush_in, request_holds, all_in, layout_in, ahead_by}
use Rattle.state.specs.Tests.{moved_by, Ready}
use Rattle.state.proofs.Cases.{none_listed, one_listed, nothing_deleted, sound_by}
use Rattle.state.proofs.Ready.{footprint_small, limits_of, length_some, ready, laid_in, short_in}

-- a flush that runs in a sound value
pub record Running (s : State) (old : ℕ) : Type 0 where
  pub start_is : start_in (model_of s) (flush_of s) ≡ start_at s old
  pub is_ready : Ready s old

module _ (s : State) where
  pub rest_stage : rests s.flush ≡ true → (model_of s).stage ≡ resting
  unfolding model_of
  rest_stage e = rw e

  pub flush_stage : rests s.flush ≡ false → (model_of s).stage ≡ flushing (flush_of s)
  unfolding model_of
  flush_stage e = rw e

  rest_objects : rests s.flush ≡ true → (model_of s).objects ≡ objects s.objects s.count
  unfolding model_of
  rest_objects e = rw e

  drop_start : rests s.flush ≡ false → eqb s.flush.deleted 0 ≡ false → start_in (model_of s) (flush_of s) ≡ start_at s s.count
  unfolding model_of
  drop_start e d = rw (e, d, none_listed s.objects.names s.objects.places s.objects.lens s.count)

  store_start : rests s.flush ≡ false → eqb s.flush.deleted 0 ≡ true → eqb s.count 0 ≡ false
      → start_in (model_of s) (flush_of s) ≡ start_at s (s.count - 1)
  unfolding model_of
  store_start e d z = rw (e, d, z, one_listed s.objects.names s.objects.places s.objects.lens s.count (omega (arith, eqb-false s.count 0 z)))

  module _ (ok : sound share (model_of s) ≡ true) where
    pub limits_sound : limits_in s ≡ true
    unfolding all_in
    limits_sound = (and_true (limits_in s) (cond (rests s.flush) (rules_in s s.count) (request_holds s)) (sym (sound_by s) ∙ ok)).0

    rules_sound : rests s.flush ≡ true → rules_in s s.count ≡ true
    unfolding all_in
    rules_sound e = rw e at (and_true (limits_in s) (cond (rests s.flush) (rules_in s s.count) (request_holds s)) (sym (sound_by s) ∙ ok)).1

    request_sound : rests s.flush ≡ false → request_holds s ≡ true
    unfolding all_in
    request_sound e = rw e at (and_true (limits_in s) (cond (rests s.flush) (rules_in s s.count) (request_holds s)) (sym (sound_by s) ∙ ok)).1

    module _ (n : length s.regions.sizes ≡ suc classes) (e : rests s.flush ≡ false) where
      readied : (old len : ℕ) → old ≤ s.count → 1 ≤ len → len ≤ longest → flush_in s old len ≡ true → Ready s old
      readied old len part some most h =
          let a = and_true (boundary_in s len) ((rules_in s old && quota_in s old) && plan_in s old) h in
          ready s old len limits_sound part some most n a.0 (and_true (rules_in s old && quota_in s old) (plan_in s old) a.1).0

      dropping_runs : eqb s.flush.deleted 0 ≡ false → Running s s.count
      unfolding request_holds
      dropping_runs d =
          let h = and_true (leb s.flush.deleted longest) (flush_in s s.count s.flush.deleted) (rw d at (request_sound e)) in
          record {
            start_is = drop_start e d;
            is_ready = readied s.count s.flush.deleted (omega arith)
                (omega (arith, eqb-false s.flush.deleted 0 d)) (leb-true _ _ h.0) h.1;
          }

      storing_runs : eqb s.flush.deleted 0 ≡ true → eqb s.count 0 ≡ false → Running s (s.count - 1)
      unfolding request_holds
      storing_runs d z =
          let some : 1 ≤ s.count = omega (arith, eqb-false s.count 0 z) in
          let f = length_some s limits_sound (s.count - 1) (omega arith) in
          record {
            start_is = store_start e d z;
            is_ready = readied (s.count - 1) (get_or s.objects.lens (s.count - 1) 0) (omega arith) f.0 f.1
                (rw (d, z) at (request_sound e));
          }

      some_count : eqb s.flush.deleted 0 ≡ true → eqb s.count 0 ≡ true → ⊥
      unfolding request_holds
      some_count d z = clash (request_sound e) (rw (d, z))

      -- THE RUNNING FLUSH
      pub runs : Running s (old_count s)
      runs = rw e ((elim (eqb s.flush.deleted 0) as (λ b. eqb s.flush.deleted 0 ≡ b → Running s (cond b (s.count - 1) s.count)) [
        | true ↦ λ d. (elim (eqb s.count 0) as
            (λ b. eqb s.count 0 ≡ b → Running s (s.count - 1)) [ true ↦ λ z. absurd (some_count d z) | false ↦ λ z. storing_runs d z ]) refl
        | false ↦ λ d. dropping_runs d
      ]) refl)

      -- all objects are held
      live_all : live (start_in (model_of s) (flush_of s)) ≡ objects s.objects s.count
      live_all =
          ap live runs.start_is ∙ listed_parts s.objects.names s.objects.places s.objects.lens (old_count s) s.count runs.is_ready.part

      held_flush : held_by (model_of s) ≡ objects s.objects s.count
      held_flush = ap (held_at (model_of s)) (flush_stage e) ∙ live_all

      -- the footprint is the layout's end
      pub footprint_flush : footprint_at share (model_of s) (model_of s).stage ≡ (layout_in s (old_count s)).end
      footprint_flush =
          ap (footprint_at share (model_of s)) (flush_stage e) ∙ ap (overflow_end share) runs.start_is ∙ (laid_in s (old_count s) runs.is_ready).end_is

      -- the list is that of the moves made
      pub list_flush : s.count ≤ length s.objects.places → list_now share (model_of s) ≡ moved_by s (layout_in s (old_count s)) (old_count s)
      unfolding list_now
      list_flush long =
          let l = layout_in s (old_count s) in
          ap (list_at share (model_of s)) (flush_stage e)
          ∙ rw (live_all, runs.start_is, plan_laid (laid_in s (old_count s) runs.is_ready))
          (sym (places_now_lem l.kinds s.objects.names s.objects.places l.middles l.finals s.objects.lens l.limit (old_count s) s.count
          (short_in s (old_count s)) runs.is_ready.part long (limits_of s limits_sound).differ s.flush.made))

      -- WHAT IS AHEAD after so many moves, by the layout now
      module _ (l : Layout) (old made : ℕ) (a : Ahead) (layout_is : l ≡ layout_in s (old_count s)) (old-is : old ≡ old_count s)
          (ahead-is : a ≡ ahead_by s l old made) where
        told : a ≡ ahead_by s (layout_in s (old_count s)) (old_count s) made
        told = ahead-is ∙ rw (layout_is, old-is)

        -- the next move is that of the next turn
        pub next_flush : next_move (ahead (plan share (start_in (model_of s) (flush_of s))) made) ≡ moves_of s.objects.names s.objects.lens a.next
        next_flush =
            let lay = layout_in s (old_count s) in
            rw (told, runs.start_is, plan_laid (laid_in s (old_count s) runs.is_ready))
            (next_move_lem lay.kinds s.objects.names s.objects.places lay.middles lay.finals s.objects.lens lay.limit (old_count s)
            s.count (short_in s (old_count s)) made)

        -- a wait is next where a run of turns ends
        pub wait_flush : at_wait (ahead (plan share (start_in (model_of s) (flush_of s))) made) ≡ run_ends a.total made a.next
        wait_flush =
            let lay = layout_in s (old_count s) in
            rw (told, runs.start_is, plan_laid (laid_in s (old_count s) runs.is_ready))
            (at_wait_lem lay.kinds s.objects.names s.objects.places lay.middles lay.finals s.objects.lens lay.limit (old_count s)
            s.count (short_in s (old_count s)) made)

        -- only the last checkpoint is ahead where all moves are made
        pub last_flush : last_ahead (ahead (plan share (start_in (model_of s) (flush_of s))) made) ≡ eqb made a.total
        last_flush =
            let lay = layout_in s (old_count s) in
            rw (told, runs.start_is, plan_laid (laid_in s (old_count s) runs.is_ready))
            (last_ahead_lem lay.kinds s.objects.names s.objects.places lay.middles lay.finals s.objects.lens lay.limit (old_count s)
            s.count (short_in s (old_count s)) made)

  -- AT REST
  held_rest : rests s.flush ≡ true → held_by (model_of s) ≡ objects s.objects s.count
  held_rest e = ap (held_at (model_of s)) (rest_stage e) ∙ rest_objects e

  pub list_rest : rests s.flush ≡ true → list_now share (model_of s) ≡ objects s.objects s.count
  unfolding list_now
  list_rest e = ap (list_at share (model_of s)) (rest_stage e) ∙ rest_objects e

  pub footprint_rest : rests s.flush ≡ true → footprint_at share (model_of s) (model_of s).stage ≡ footprint share (sizes_in s.regions)
  unfolding model_of
  footprint_rest e = rw e

  pub small_rest : sound share (model_of s) ≡ true → rests s.flush ≡ true → footprint share (sizes_in s.regions) ≤ 16777216
  unfolding rules_in
  small_rest ok e =
      let os = objects s.objects s.count in
      let l = limits_of s (limits_sound ok) in
      footprint_small s.area (regions_in s.regions) os s.flush.deleted l.area_most
      (rest_facts share (regions_in s.regions) os s.flush.deleted (rules_sound ok e)) (omega (arith, l.quota, nothing_deleted s e))

  -- all objects are held, at rest and in a flush
  pub held_all : sound share (model_of s) ≡ true → length s.regions.sizes ≡ suc classes → held_by (model_of s) ≡ objects s.objects s.count
  held_all ok n = (elim (rests s.flush) as (λ b. rests s.flush ≡ b → held_by (model_of s) ≡ objects s.objects s.count) [
    | true ↦ λ e. held_rest e
    | false ↦ λ e. held_flush ok n e
  ]) refl
