-- Soundness by the columns, each test beside the function that makes it. `old` is the number of objects at a flush's start.
use Rattle.std.specs.Prelude.{ℕ, ◌-◌, ◌≤◌, ◌<◌, Bool, true, false, cond, ◌&&◌, List, get_or, leb, ltb, eqb}
use Rattle.rules.specs.House.{share, classes, longest, most_objects}
use Rattle.rules.specs.Classes.{Obj, class_of}
use Rattle.rules.specs.Boundary.{boundary_of}
use Rattle.rules.specs.Columns.{listed, start_listed}
use Rattle.rules.specs.Flush.{Start, new_place, plan, ahead}
use Rattle.rules.specs.Sound.{limits_hold, rest_rules, within_quota, due_fits}
use Rattle.edits.specs.Edits.{objects}
use Rattle.layout.specs.declared.Layout.{Layout}
use Rattle.layout.specs.Layout.{Small, layout_of}
use Rattle.plan.specs.declared.Ahead.{Ahead}
use Rattle.plan.specs.Turns.{ahead_at, places_after}
use Rattle.state.specs.declared.State.{State}
use Rattle.state.specs.Model.{sizes_in, regions_in, rests}

-- the limits hold for all objects
unfoldable pub limits_in : State → Bool
limits_in s = limits_hold share s.area (objects s.objects s.count)

-- the rules at rest hold for the first n objects
unfoldable pub rules_in : State → ℕ → Bool
rules_in s n = rest_rules share (regions_in s.regions) (objects s.objects n) s.flush.deleted

-- they are within the quota
unfoldable pub quota_in : State → ℕ → Bool
quota_in s n = within_quota share s.area (objects s.objects n) s.flush.deleted

-- the boundary is that of a request of this length
unfoldable pub boundary_in : State → ℕ → Bool
boundary_in s len = eqb s.flush.boundary (boundary_of s.regions.useds s.regions.lowests (class_of len))

-- the start of the flush
abbrev pub start_at : State → ℕ → Start
start_at s old =
    start_listed (regions_in s.regions) s.flush.boundary s.objects.names s.objects.places s.objects.lens old s.count

-- a new object lies at this place
abbrev pub new_at : State → ℕ → ℕ → Bool
new_at s old next = cond (ltb old s.count) (eqb (get_or s.objects.places old 0) next) true

-- a new object lies where it must, and a checkpoint is due, or not, as the plan has it
unfoldable pub plan_in : State → ℕ → Bool
plan_in s old =
    new_at s old (new_place share (start_at s old)) && due_fits (ahead (plan share (start_at s old)) s.flush.made) s.flush.due

-- what holds in a flush for a request of this length
abbrev pub flush_in : State → ℕ → ℕ → Bool
flush_in s old len = boundary_in s len && ((rules_in s old && quota_in s old) && plan_in s old)

-- the same, by what the request is
unfoldable pub request_holds : State → Bool
request_holds s =
    cond (eqb s.flush.deleted 0)
    (cond (eqb s.count 0) false (flush_in s (s.count - 1) (get_or s.objects.lens (s.count - 1) 0)))
    (leb s.flush.deleted longest && flush_in s s.count s.flush.deleted)

-- all that holds
unfoldable pub all_in : State → Bool
all_in s = limits_in s && cond (rests s.flush) (rules_in s s.count) (request_holds s)

-- the layout of the flush
abbrev pub layout_in : State → ℕ → Layout
layout_in s old = layout_of (sizes_in s.regions) s.flush.boundary s.objects.places s.objects.lens old s.count

-- what is ahead after so many moves, by the columns of a layout
abbrev pub ahead_by : State → Layout → ℕ → ℕ → Ahead
ahead_by s l old made = ahead_at l.kinds s.objects.places l.middles l.finals s.objects.lens l.limit old s.count made

-- the objects at their places now
abbrev pub moved_by : State → Layout → ℕ → List Obj
moved_by s l old =
    listed s.objects.names (places_after l.kinds s.objects.places l.middles l.finals old s.count s.flush.made) s.objects.lens 0
    s.count

-- what the tests show before a layout is made
pub record Ready (s : State) (old : ℕ) : Type 0 where
  pub part : old ≤ s.count
  pub few : s.count ≤ most_objects
  pub least : 1 ≤ s.flush.boundary
  pub most : s.flush.boundary ≤ classes
  pub short : (j : ℕ) → j < s.count → get_or s.objects.lens j 0 ≤ longest
  pub small : Small (sizes_in s.regions)
