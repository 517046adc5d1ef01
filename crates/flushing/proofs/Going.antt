-- A flush that goes on: what its value stands for after moves and confirmations, and what a value at rest stands for.
-- The boundary of a running flush is a class, so that its value never rests; all else of the value is kept.
use mathlib.Core.Path.{◌≡◌, refl, ◌∙◌}
use mathlib.Core.Bool.{Bool, true, false}
use Prim.Native.Nat.{ℕ, suc, ◌≤◌}
use native.Mathlib.Omega.{arith}
use lib.ListN.{length}
use borrow.Author.Tests.{ne_eqb}
use Rattle.rules.specs.House.{share, classes}
use Rattle.rules.specs.Flush.{plan, ahead, at_wait}
use Rattle.rules.specs.Stores.{Store, flushing, at_stage, resting_at, start_in, ahead_of, advanced, waited, settled_store}
use Rattle.rules.specs.Stores as stores
use Rattle.rules.specs.Calls.{last_ahead, confirm_in}
use Rattle.rules.specs.Sound.{sound}
use Rattle.rules.proofs.Plays.{moves_left}
use Rattle.edits.specs.declared.Columns.{Columns}
use Rattle.edits.specs.Edits.{objects}
use Rattle.flush_laws.proofs.Laid.{plan_laid}
use Rattle.plan.specs.Turns.{total_moves}
use Rattle.flush_laws.proofs.Rules.{total_moves_lem}
use Rattle.leaves.specs.declared.regions.Regions.{Regions}
use Rattle.state.specs.declared.State.{State}
use Rattle.state.specs.Model.{rests, regions_in, request_in, old_count, flush_of, model_of}
use Rattle.state.specs.Tests.{layout_in}
use Rattle.state.proofs.Ready.{laid_in, short_in}
use Rattle.state.proofs.Told.{runs}
pub use Rattle.state.proofs.Told.{rest_stage, flush_stage}
use Rattle.flushing.specs.Flushing.{went_on, resting_in}

-- a confirmation where one is due: the last ends the flush, any other is behind
module _ (q : ℕ) (s : Store) (f : stores.Flush) (due : f.due ≡ true) where
  pub confirm_wait : last_ahead (ahead_of q s f) ≡ false → confirm_in q s (flushing f) ≡ at_stage s (flushing (waited f))
  confirm_wait l = rw (due, l)

  pub confirm_last : last_ahead (ahead_of q s f) ≡ true → confirm_in q s (flushing f) ≡ settled_store q s f
  confirm_last l = rw (due, l)

module _ (s : State) where
  -- with a boundary no value rests
  runs_on : (made : ℕ) (due : Bool) → 1 ≤ s.flush.boundary → rests (went_on s made due).flush ≡ false
  unfolding rests
  runs_on made due some = rw (ne_eqb s.flush.boundary 0 (λ e. omega arith))

  -- A FLUSH THAT GOES ON is at another stage
  went_on_lem : sound share (model_of s) ≡ true → length s.regions.sizes ≡ suc classes → rests s.flush ≡ false → (made : ℕ) (due : Bool)
      → model_of (went_on s made due)
      ≡ at_stage (model_of s) (flushing (record { request = request_in s; boundary = s.flush.boundary; made = made; due = due }))
  unfolding model_of
  went_on_lem ok n e made due = rw (runs_on made due (runs s ok n e).is_ready.least, e)

  -- with one move more made,
  pub advanced_is : sound share (model_of s) ≡ true → length s.regions.sizes ≡ suc classes → rests s.flush ≡ false → (made : ℕ) (due : Bool)
      → made ≡ suc s.flush.made → due ≡ at_wait (ahead (plan share (start_in (model_of s) (flush_of s))) made)
      → model_of (went_on s made due) ≡ at_stage (model_of s) (flushing (advanced share (model_of s) (flush_of s)))
  advanced_is ok n e made due m d = went_on_lem ok n e made due ∙ rw (d, m)

  -- or with its checkpoint confirmed
  pub waited_is : sound share (model_of s) ≡ true → length s.regions.sizes ≡ suc classes → rests s.flush ≡ false → (due : Bool)
      → due ≡ false
      → model_of (went_on s s.flush.made due) ≡ at_stage (model_of s) (flushing (waited (flush_of s)))
  waited_is ok n e due d = went_on_lem ok n e s.flush.made due ∙ rw d

  -- THE MOVES OF ITS PLAN are those of the layout
  pub plan_total : (ok : sound share (model_of s) ≡ true) (n : length s.regions.sizes ≡ suc classes) (e : rests s.flush ≡ false)
      → moves_left (plan share (start_in (model_of s) (flush_of s))) ≡ total_moves (layout_in s (old_count s)).kinds (old_count s) s.count
  plan_total ok n e =
      let r = runs s ok n e in
      let l = layout_in s (old_count s) in
      rw (r.start_is, plan_laid (laid_in s (old_count s) r.is_ready))
      (total_moves_lem l.kinds s.objects.names s.objects.places l.middles l.finals s.objects.lens l.limit (old_count s) s.count
      (short_in s (old_count s)))

  -- A VALUE AT REST
  pub rests_in : (r : Regions) (os : Columns) → model_of (resting_in s r os) ≡ resting_at s.area (regions_in r) (objects os s.count)
  unfolding model_of rests
  rests_in r os = refl
