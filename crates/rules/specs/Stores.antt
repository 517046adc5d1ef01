-- The store: what it holds, and what is computed from that.
use Rattle.std.specs.Prelude.{ℕ, suc, Bool, false, List, [], ◌∷◌}
use Rattle.rules.specs.Classes.{Obj, cls, class_of, by_place}
use Rattle.rules.specs.Regions.{Regions, footprint}
use Rattle.rules.specs.Flush.{Start, Act, live, plan, played, ahead, at_wait, overflow_end, rebound}

-- what starts a flush: this object is stored, at its place in overflow, or one of this length is deleted
pub data Request : Type 0 where
  storing : Obj → Request
  dropping : ℕ → Request

-- a running flush: its request, its boundary, the moves made, and whether a checkpoint is due
pub record Flush : Type 0 where
  pub request : Request
  pub boundary : ℕ
  pub made : ℕ
  pub due : Bool

-- at rest, or in a flush
pub data Stage : Type 0 where
  resting : Stage
  flushing : Flush → Stage

-- the store: in a flush bounds and places are those of its start
pub record Store : Type 0 where
  pub area : ℕ
  pub regions : Regions
  pub objects : List Obj
  pub stage : Stage

-- a store at another stage
abbrev pub at_stage : Store → Stage → Store
at_stage s g = record { area = s.area; regions = s.regions; objects = s.objects; stage = g }

-- a store at rest
abbrev pub resting_at : ℕ → Regions → List Obj → Store
resting_at a t os = record { area = a; regions = t; objects = os; stage = resting }

-- the class of a request
abbrev pub request_class : Request → ℕ
request_class (storing o) = cls o
request_class (dropping n) = class_of n

-- the new object of a request, if there is one
abbrev pub new_of : Request → List Obj
new_of (storing o) = o ∷ []
new_of (dropping n) = []

-- the start of a flush
abbrev pub start_by : Regions → List Obj → Request → ℕ → Start
start_by t os r b = record { regions = t; boundary = b; old = os; new = new_of r }

-- the start of the running flush
abbrev pub start_in : Store → Flush → Start
start_in s f = start_by s.regions s.objects f.request f.boundary

-- a flush that begins
abbrev pub begun : ℕ → Store → Request → ℕ → Store
begun q s r b =
    at_stage s (flushing (record { request = r; boundary = b; made = 0; due = at_wait (plan q (start_by s.regions s.objects r b)) }))

-- what is ahead of the moves made
abbrev pub ahead_of : ℕ → Store → Flush → List Act
ahead_of q s f = ahead (plan q (start_in s f)) f.made

-- a flush with one move more made
abbrev pub advanced : ℕ → Store → Flush → Flush
advanced q s f =
    record { request = f.request; boundary = f.boundary; made = suc f.made; due = at_wait (ahead (plan q (start_in s f)) (suc f.made)) }

-- a flush whose due checkpoint is confirmed
abbrev pub waited : Flush → Flush
waited f = record { request = f.request; boundary = f.boundary; made = f.made; due = false }

-- the objects at their places now, from a flush's start
abbrev pub places_now : ℕ → Store → Flush → List Obj
places_now q s f = played (plan q (start_in s f)) f.made (live (start_in s f))

-- a flush that ends: the new bounds stand, and the store is at rest
abbrev pub settled_store : ℕ → Store → Flush → Store
settled_store q s f = resting_at s.area (rebound (start_in s f)) (by_place (places_now q s f))

-- the objects at their places now, by stage
abbrev pub list_at : ℕ → Store → Stage → List Obj
list_at q s resting = s.objects
list_at q s (flushing f) = places_now q s f

-- the list: the objects at their places now
unfoldable pub list_now : ℕ → Store → List Obj
list_now q s = list_at q s s.stage

-- the footprint reported
abbrev pub footprint_at : ℕ → Store → Stage → ℕ
footprint_at q s resting = footprint q s.regions.sizes
footprint_at q s (flushing f) = overflow_end q (start_in s f)

-- the live objects, by stage, at their places of the flush's start
abbrev pub held_at : Store → Stage → List Obj
held_at s resting = s.objects
held_at s (flushing f) = live (start_in s f)

-- the live objects
abbrev pub held_by : Store → List Obj
held_by s = held_at s s.stage
