-- What a value of the store stands for: a store of the rules.
use Rattle.std.specs.Prelude.{ℕ, ◌-◌, Bool, cond, not, ◌&&◌, List, get_or, set, eqb}
use Rattle.rules.specs.Classes.{Obj}
use Rattle.rules.specs.Regions as regions
use Rattle.rules.specs.Stores as stores
use Rattle.edits.specs.Edits.{object, objects}
use Rattle.leaves.specs.declared.regions.Regions.{Regions}
use Rattle.state.specs.declared.Flush.{Flush}
use Rattle.state.specs.declared.State.{State}

-- the payload sizes; what the column holds for class 0 stands for nothing
unfoldable pub sizes_in : Regions → List ℕ
sizes_in r = set r.sizes 0 0

-- the regions
abbrev pub regions_in : Regions → regions.Regions
regions_in r = record { sizes = sizes_in r; useds = r.useds; lowests = r.lowests }

-- no flush runs, and nothing of one is in the value
unfoldable pub rests : Flush → Bool
rests f = (eqb f.boundary 0 && eqb f.made 0) && (eqb f.deleted 0 && not f.due)

-- an object is being stored: a flush runs that deletes nothing
abbrev pub is_storing : Flush → Bool
is_storing f = not (rests f) && eqb f.deleted 0

-- the number of objects at a flush's start: all, but for one that is being stored
abbrev pub old_count : State → ℕ
old_count s = cond (is_storing s.flush) (s.count - 1) s.count

-- the object of an index
abbrev pub object_at : State → ℕ → Obj
object_at s i = object (get_or s.objects.names i 0) (get_or s.objects.places i 0) (get_or s.objects.lens i 0)

-- the object being stored is the last; where there is none, one that is in no limits
abbrev pub last_object : State → Obj
last_object s = cond (eqb s.count 0) (object 0 0 0) (object_at s (s.count - 1))

-- what started the running flush
abbrev pub request_in : State → stores.Request
request_in s = cond (eqb s.flush.deleted 0) (stores.storing (last_object s)) (stores.dropping s.flush.deleted)

-- the running flush
abbrev pub flush_of : State → stores.Flush
flush_of s = record { request = request_in s; boundary = s.flush.boundary; made = s.flush.made; due = s.flush.due }

-- at rest, or in a flush
abbrev pub stage_in : State → stores.Stage
stage_in s = cond (rests s.flush) stores.resting (stores.flushing (flush_of s))

-- the store
unfoldable pub model_of : State → stores.Store
model_of s = record {
  area = s.area;
  regions = regions_in s.regions;
  objects = objects s.objects (old_count s);
  stage = stage_in s;
}
