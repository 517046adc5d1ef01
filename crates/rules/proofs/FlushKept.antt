-- Law 9 while a flush runs: a step, and a confirmation that does not end the flush, keep soundness. Nothing of the flush's start
-- changes, and where a checkpoint may be due is law 11's.
use mathlib.Core.Path.{◌≡◌}
use mathlib.Core.Bool.{Bool, true, ◌&&◌}
use mathlib.Core.List.{List}
use Prim.Native.Nat.{ℕ}
use lib.Dec.{eqb}
use Rattle.rules.specs.House.{share}
use Rattle.rules.specs.Flush.{live}
use Rattle.rules.specs.Stores.{Store, flushing, Flush, Request, storing, dropping, at_stage, start_in, ahead_of, advanced}
use Rattle.rules.specs.Sound.{limits_hold, start_holds, due_fits, stage_holds, sound}
use Rattle.rules.specs.Calls.{step_of}
use Rattle.rules.proofs.Lists.{and_true, true_and}
use Rattle.rules.proofs.Starts.{boundary_by, sound_parts}
use Rattle.rules.proofs.Accepted.{step_cases}

-- a running flush with other moves made, or another checkpoint due
abbrev pub moved_on : Flush → ℕ → Bool → Flush
moved_on f made due = record { request = f.request; boundary = f.boundary; made = made; due = due }

-- where its checkpoint fits, the store is sound so too
pub sound_at : (q : ℕ) (s : Store) (f : Flush) (made : ℕ) (due : Bool) → s.stage ≡ flushing f → sound q s ≡ true
    → due_fits (ahead_of q s (moved_on f made due)) due ≡ true → sound q (at_stage s (flushing (moved_on f made due))) ≡ true
unfolding sound stage_holds
sound_at q s f made due runs holds fits =
    let p = sound_parts q s (flushing f) runs holds in
    let b = and_true (eqb f.boundary (boundary_by s.regions f.request)) (start_holds q s f f.request && due_fits (ahead_of q s f) f.due) p.1 in
    let c = and_true (start_holds q s f f.request) (due_fits (ahead_of q s f) f.due) b.1 in
    let g = moved_on f made due in
    true_and (limits_hold q s.area (live (start_in s f))) (stage_holds q (at_stage s (flushing g)) (flushing g)) p.0
    (true_and (eqb f.boundary (boundary_by s.regions f.request)) (start_holds q (at_stage s (flushing g)) g f.request && due_fits (ahead_of q s g) due)
    b.0
    (true_and (start_holds q (at_stage s (flushing g)) g f.request) (due_fits (ahead_of q s g) due) (start_still f.request c.0) fits))
  where
    start_still : (r : Request) → start_holds q s f r ≡ true → start_holds q (at_stage s (flushing (moved_on f made due))) (moved_on f made due) r ≡ true
    start_still (storing o) h = h
    start_still (dropping n) h = h

-- STEP keeps soundness
pub step_keeps : (s : Store) (area : List ℕ) → sound share s ≡ true → sound share (step_of s area).store ≡ true
step_keeps s area holds = step_cases (λ o. sound share o.store ≡ true) s (λ a e. holds) area holds (λ f runs k own law.
    sound_at share s f (advanced share s f).made (advanced share s f).due runs holds law.on.fits)
