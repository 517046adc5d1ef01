-- What the contracts of the rules at rest cite beside the rules: the regions' columns taken as one, and the balance of a table of live
-- volumes.
use Rattle.std.specs.Prelude.{ℕ, suc, ◌+◌, ◌-◌, Bool, leb}
use Rattle.leaves.specs.declared.regions.Regions as held
use Rattle.rules.specs.House.{classes}
use Rattle.rules.specs.Classes.{Obj}
use Rattle.rules.specs.Regions.{Regions, col, span, every, up_from}
use Rattle.rules.specs.Sound.{if_clean}

-- the columns of the regions, as the rules have them
abbrev pub regions_of : held.Regions → Regions
regions_of r = record { sizes = r.sizes; useds = r.useds; lowests = r.lowests }

-- an object whose name does not matter
abbrev pub unnamed : ℕ → ℕ → Obj
unnamed at len = record { name = 0; at = at; len = len }

-- classes k to l - 1 have at least their payloads less what their buffers have used, `has c` being the live volume of class c
abbrev pub enough_by : Regions → (ℕ → ℕ) → ℕ → ℕ → Bool
enough_by t has k l = leb (span (col t.sizes) k (l - k)) (span has k (l - k) + span (col t.useds) k (l - k))

-- from class k on, if it is clean, enough up to each clean class above it and up to one past the last class
abbrev pub enough_from : Regions → (ℕ → ℕ) → ℕ → Bool
enough_from t has k = if_clean t k (every (λ l. if_clean t l (enough_by t has k l)) (suc k) (up_from k))

-- balanced, by the live volumes of the classes
abbrev pub balanced_by : Regions → (ℕ → ℕ) → Bool
balanced_by t has = every (enough_from t has) 1 classes
