-- A flush in a sound store begins as law 6 asks: so the plan of every flush that a sound store runs is safe.
use mathlib.Core.Path.{◌≡◌, refl}
use mathlib.Core.Logic.{◌⊎◌, inl, inr}
use mathlib.Core.Bool.{true, ◌&&◌}
use mathlib.Core.List.{List, []}
use Prim.Native.Nat.{ℕ, ◌≤◌}
use native.Mathlib.Omega.{arith}
use lib.ListN.{length}
use lib.Dec.{eqb}
use borrow.Author.Tests.{eqb-true}
use Rattle.rules.specs.Classes.{Obj, cls, end_of}
use Rattle.rules.specs.Regions.{footprint}
use Rattle.rules.specs.Flush.{live, new_place, plan}
use Rattle.rules.specs.Stores.{Store, Flush, flushing, Request, storing, dropping, new_of, start_in, ahead_of}
use Rattle.rules.specs.Sound.{within_quota, rest_rules, start_holds, due_fits, stage_holds, sound}
use Rattle.rules.proofs.Lists.{and_true, All}
use Rattle.rules.proofs.Facts.{limits_facts}
use Rattle.rules.proofs.Starts.{gone_by, boundary_by, sound_parts, sound_starts}
use Rattle.rules.proofs.Safe.{Safe}
use Rattle.rules.proofs.Begin.{Begins}
use Rattle.rules.proofs.FlushSafe.{Settled, plan_safe}

-- an object is stored, or one is deleted
stored_or_gone : (r : Request) → (new_of r ≡ []) ⊎ (gone_by r ≡ 0)
stored_or_gone (storing o) = inr refl
stored_or_gone (dropping n) = inl refl

at_most_one : (r : Request) → length (new_of r) ≤ 1
at_most_one (storing o) = omega arith
at_most_one (dropping n) = omega arith

-- the new object lies in overflow
new_placed : (q : ℕ) (s : Store) (f : Flush) (r : Request) (b : ℕ) → start_holds q s f r ≡ true → All (λ o. b ≤ cls o) (new_of r)
    → All (λ o. (o.at ≡ new_place q (start_in s f)) × (b ≤ cls o)) (new_of r)
new_placed q s f (storing o) b e h = (
  (
    eqb-true _ _ (and_true (eqb o.at (new_place q (start_in s f))) (rest_rules q s.regions s.objects 0 && within_quota q s.area s.objects 0) e).0,
    h.0,
  ),
  tt,
)
new_placed q s f (dropping n) b e h = tt

module _ (q : ℕ) (s : Store) (f : Flush) (three : 3 ≤ q) (runs : s.stage ≡ flushing f) (holds : sound q s ≡ true) where
  -- a flush in a sound store begins as law 6 asks
  pub sound_begins : Begins q (start_in s f)
  unfolding stage_holds
  sound_begins =
      let parts = sound_parts q s (flushing f) runs holds in
      let limits = limits_facts q s.area (live (start_in s f)) parts.0 in
      let starts = sound_starts q s f runs holds in
      let stage =
      and_true (eqb f.boundary (boundary_by s.regions f.request)) (start_holds q s f f.request && due_fits (ahead_of q s f) f.due) parts.1 in
      let start = and_true (start_holds q s f f.request) (due_fits (ahead_of q s f) f.due) stage.1 in
      record {
        three = three;
        gone = gone_by f.request;
        rest = starts.rest;
        request = stored_or_gone f.request;
        gone_class = starts.gone_class;
        fits = limits.fits;
        differ = limits.differ;
        low = starts.boundary_least;
        high = starts.boundary_most;
        clean = starts.boundary_clean;
        new_there = new_placed q s f f.request f.boundary start.0 starts.new_class;
        one = at_most_one f.request;
      }

  -- THE PLAN OF A FLUSH IN A SOUND STORE IS SAFE
  pub sound_plan_safe : (seen : List Obj) → All (λ o. end_of o ≤ footprint q s.regions.sizes) seen
      → Safe (plan q (start_in s f)) (λ now seen'. Settled q (start_in s f) now) (live (start_in s f)) seen
  sound_plan_safe seen below = plan_safe sound_begins seen below
