-- What the functions are asked and hand back, in the rules' terms.
use Rattle.std.specs.Prelude.{ℕ, ◌+◌, ◌-◌, ◌≡◌, Bool, false, List, [], ◌∷◌, ◌++◌}
use Rattle.rules.specs.Answers.{first}
use Rattle.rules.specs.Calls.{Outcome, storing_at, insert_tests}
use Rattle.rules.specs.declared.Answer.TheVariants.{Done}
use Rattle.edits.specs.declared.Columns.{Columns}
use Rattle.edits.specs.Edits.{object, objects, between}
use Rattle.state.specs.declared.Flush.{Flush}
use Rattle.state.specs.declared.State.{State}
use Rattle.state.specs.Model.{model_of}
use Rattle.requests.specs.declared.Placed.{Placed}

-- no test refuses an insert, the store's own area lent
abbrev pub Passes : State → ℕ → List ℕ → Type 0
Passes s name page = first (insert_tests (model_of s) s.area name page) ≡ Done

-- what an insert of this page comes to
abbrev pub outcome_of : Placed → List ℕ → Outcome
outcome_of p page = storing_at (model_of p.state) p.answer p.at page

-- the value with other objects
abbrev pub with_objects : State → Columns → ℕ → State
with_objects s cs n = record { area = s.area; regions = s.regions; objects = cs; count = n; flush = s.flush }

-- the value in a flush
abbrev pub in_flush : State → Flush → State
in_flush s f = record { area = s.area; regions = s.regions; objects = s.objects; count = s.count; flush = f }

-- a flush before its first move
abbrev pub flush_from : ℕ → ℕ → Bool → Flush
flush_from b deleted due = record { boundary = b; made = 0; deleted = deleted; due = due }

-- the value before the first move of its flush, a checkpoint due or not
abbrev pub with_due : State → Bool → State
with_due s due = in_flush s (flush_from s.flush.boundary s.flush.deleted due)

-- one object more, behind the others, for a flush from b on
abbrev pub storing_in : State → Columns → ℕ → State
storing_in s cs b = in_flush (with_objects s cs (s.count + 1)) (flush_from b 0 false)

pub record Storing (s : State) (name at len b : ℕ) (r : State) : Type 0 where
  pub value_is : r ≡ storing_in s r.objects b
  pub objects_are : objects r.objects (s.count + 1) ≡ objects s.objects s.count ++ (object name at len ∷ [])

-- the object at index i gone
pub record Without (s : State) (i : ℕ) (r : State) : Type 0 where
  pub value_is : r ≡ with_objects s r.objects (s.count - 1)
  pub objects_are : objects r.objects (s.count - 1) ≡ objects s.objects i ++ between s.objects (i + 1) s.count
