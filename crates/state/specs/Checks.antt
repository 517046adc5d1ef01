-- What the test of a value hands on.
use Rattle.std.specs.Prelude.{Bool, cond, Option, Some, None}
use Rattle.state.specs.declared.State.{State}
use Rattle.state.specs.declared.Checked.{Checked}

-- the value that passed
abbrev pub value_of : Option Checked → Option State
value_of (Some c) = Some c.state
value_of None = None

-- the value, where it passes
abbrev pub where_it : Bool → State → Option State
where_it passes s = cond passes (Some s) None
