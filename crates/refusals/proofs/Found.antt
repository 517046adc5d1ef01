-- Columns that list the objects now show, at the index found, the object of a name that is held.
-- The list has the name, so the search finds it; names differ, so it is the only one; and it lies within the area.
use mathlib.Core.Path.{◌≡◌, sym, ap, ◌∙◌}
use mathlib.Core.Bool.{true}
use mathlib.Core.List.{[], ◌∷◌}
use Prim.Native.Nat.{ℕ, ◌+◌, ◌≤◌, ◌<◌}
use native.Mathlib.Omega.{arith}
use lib.ListN.{length, get_or}
use borrow.Author.Tests.{ltb-true, lt-ltb}
use Rattle.rules.specs.House.{share, most_area}
use Rattle.rules.specs.Stores.{list_now}
use Rattle.rules.specs.Sound.{sound}
use Rattle.rules.specs.Calls.{named, held}
use Rattle.edits.specs.declared.Columns.{Columns}
use Rattle.edits.specs.Edits.{object, objects, find_in}
use Rattle.edits.proofs.Finds.{found_name, found_named, found_held}
use Rattle.state.specs.declared.State.{State}
use Rattle.state.specs.Model.{model_of}
use Rattle.refusals.proofs.Known.{area_is}
use Rattle.rules.proofs.Now.{list_distinct, list_held, list_low}

module _ (s : State) (c : Columns) (name : ℕ) (ok : sound share (model_of s) ≡ true) (has : held (model_of s) name ≡ true)
    (lists : objects c s.count ≡ list_now share (model_of s)) where
  -- the search finds the name
  pub found : find_in c.names s.count name < s.count
  found =
      let some : 0 < length (named name (objects c s.count)) = rw lists (list_held share (model_of s) ok name has) in
      ltb-true (find_in c.names s.count name) s.count
      (sym (found_held c.names c.places c.lens s.count name) ∙ lt-ltb 0 (length (named name (objects c s.count))) some)

  -- the object there is the one of the name
  pub found_is : named name (list_now share (model_of s))
      ≡ object name (get_or c.places (find_in c.names s.count name) 0) (get_or c.lens (find_in c.names s.count name) 0) ∷ []
  found_is =
      ap (named name) (sym lists)
      ∙ found_named c.names c.places c.lens s.count name found (rw lists (list_distinct share (model_of s) ok))
      ∙ rw (found_name c.names c.places c.lens s.count name found)

  -- and lies within the area, at an address
  pub found_low : (get_or c.places (find_in c.names s.count name) 0 + get_or c.lens (find_in c.names s.count name) 0 ≤ s.area)
      × (get_or c.places (find_in c.names s.count name) 0 < most_area)
  found_low = let l = list_low share (model_of s) ok (omega arith) name _ found_is in (omega (arith, l.0, area_is s), l.1)
