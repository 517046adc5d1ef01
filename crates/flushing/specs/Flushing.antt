-- What a flush that goes on leaves, by the columns of the store's value.
use Rattle.std.specs.Prelude.{ℕ, Bool, false, cond, List, get_or, ltb}
use Rattle.rules.specs.House.{most_objects}
use Rattle.rules.specs.Classes.{class_of}
use Rattle.rules.specs.Regions.{col, column}
use Rattle.edits.specs.declared.Columns.{Columns}
use Rattle.layout.specs.Layout.{filled}
use Rattle.orders.specs.Orders.{key_of}
use Rattle.leaves.specs.declared.regions.Regions.{Regions}
use Rattle.state.specs.declared.State.{State}

-- the value with so many moves made, and a checkpoint due or not
abbrev pub went_on : State → ℕ → Bool → State
went_on s made due = record {
  area = s.area;
  regions = s.regions;
  objects = s.objects;
  count = s.count;
  flush = record { boundary = s.flush.boundary; made = made; deleted = s.flush.deleted; due = due };
}

-- the regions with new sizes, their buffers empty from class b on
abbrev pub emptied : Regions → ℕ → List ℕ → Regions
emptied r b sizes = record {
  sizes = sizes;
  useds = column (λ i. cond (ltb i b) (col r.useds i) 0);
  lowests = column (λ i. cond (ltb i b) (col r.lowests i) 0);
}

-- the value at rest, with these regions and objects
abbrev pub resting_in : State → Regions → Columns → State
resting_in s r os = record {
  area = s.area;
  regions = r;
  objects = os;
  count = s.count;
  flush = record { boundary = 0; made = 0; deleted = 0; due = false };
}

-- the key of each object, by its kind and its length
unfoldable pub keys_of : List ℕ → List ℕ → ℕ → List ℕ
keys_of kinds lens n = filled (λ i. key_of (get_or kinds i 0) (class_of (get_or lens i 0))) n 0 most_objects
