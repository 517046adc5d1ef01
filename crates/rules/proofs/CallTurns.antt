-- Laws 8 and 11 speak of turns; here a turn is a call: in a sound store a step with the store's own area lent, and a confirmation with room for the map.
use mathlib.Core.Path.{◌≡◌, refl}
use mathlib.Core.Bool.{true, false, cond}
use mathlib.Core.List.{List, [], ◌∷◌, ◌++◌}
use Prim.Native.Nat.{ℕ, ◌≤◌}
use native.Mathlib.Omega.{arith}
use lib.ListN.{length}
use lib.Dec.{ltb}
use borrow.Author.Tests.{eq-eqb, ne_eqb, le-ltb}
use Rattle.rules.specs.House.{share}
use Rattle.rules.specs.Stores.{Store, held_by}
use Rattle.rules.specs.Sound.{sound}
use Rattle.rules.specs.Answers.{Test, first}
use Rattle.rules.specs.Calls.{unless_refused, test, from_refused, due_in, store_tests, step_in, step_of, confirm_of, map_size}
use Rattle.rules.specs.declared.Answer.TheVariants.{CheckpointDue, ShortBuffer}
use Rattle.rules.proofs.Facts.{limits_facts}
use Rattle.rules.proofs.Starts.{sound_parts}
use Rattle.rules.proofs.Turns.{stepping, confirming, turned}

-- a sound store, its own area lent, passes the tests of every call
pub own_tests : (s : Store) (lent : ℕ) (ts : List Test) → sound share s ≡ true → lent ≡ s.area → first (store_tests s lent ++ ts) ≡ first ts
unfolding first
own_tests s lent ts holds own =
    let l = limits_facts share s.area (held_by s) (sound_parts share s s.stage refl holds).0 in
    let z : from_refused s ≡ false = ne_eqb s.area 0 (λ e. omega (arith, l.area_least)) in
    rw (z, holds, eq-eqb lent s.area own)

-- a step is a turn
pub step_turns : (s : Store) (area : List ℕ) → sound share s ≡ true → length area ≡ s.area
    → (step_of s area).store ≡ turned share s s.stage (stepping area)
unfolding step_of first
step_turns s area holds own =
    rw (own_tests s (length area) (test (due_in s.stage) CheckpointDue ∷ []) holds own)
    (elim (due_in s.stage) as (λ b. (unless_refused s (first (test b CheckpointDue ∷ [])) (step_in share s area s.stage)).store ≡ cond b s
    (step_in share s area s.stage).store) [
      | true ↦ refl
      | false ↦ refl
    ])

-- and so is a confirmation
pub confirm_turns : (s : Store) (room : ℕ) → sound share s ≡ true → map_size (length (held_by s)) ≤ room
    → (confirm_of s room).store ≡ turned share s s.stage confirming
unfolding confirm_of first
confirm_turns s room holds fits =
    rw (own_tests s s.area (test (ltb room (map_size (length (held_by s)))) ShortBuffer ∷ []) holds refl, le-ltb room (map_size (length (held_by s))) fits)
