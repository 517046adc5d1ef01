-- A write, as the rules have it.
use Rattle.std.specs.Prelude.{ℕ, List}
use Rattle.rules.specs.Calls.{Write}

-- these bytes at this place
abbrev pub write_of : ℕ → List ℕ → Write
write_of at bytes = record { at = at; bytes = bytes }
