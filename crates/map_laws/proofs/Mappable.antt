-- The list of a sound store may be made a map of, at rest and in the middle of a flush; so the bytes that a confirmation hands out are read back to it.
use mathlib.Core.Path.{◌≡◌}
use mathlib.Core.Bool.{true}
use mathlib.Core.List.{List, [], ◌∷◌}
use Prim.Native.Nat.{ℕ, ◌≤◌}
use native.Mathlib.Omega.{arith}
use borrow.Author.Tests.{le-leb}
use lib.Dec.{leb}
use lib.ListN.{length}
use lib.Seq.{take_at}
use Rattle.rules.specs.House.{share, most_objects, least_area, most_area}
use Rattle.rules.specs.Classes.{Obj, end_of, by_name}
use Rattle.rules.specs.Stores.{Store, list_now}
use Rattle.rules.specs.Sound.{object_fits, sound}
use Rattle.rules.specs.Answers.{accepted}
use Rattle.rules.specs.Calls.{confirm_of}
use Rattle.rules.specs.declared.Answer.TheVariants.{Done}
use Rattle.rules.proofs.Lists.{true_and, all_map, all_each}
use Rattle.rules.proofs.Facts.{fits_test, differ_test}
use Rattle.rules.proofs.Insertion.{Pairwise, name_length}
use Rattle.rules.proofs.Accepted.{confirm_passes}
use Rattle.rules.proofs.Laid.{besides_pairwise}
use Rattle.rules.proofs.Now.{list_length, sound_limits, list_fits_lem, list_laid}
use Rattle.mapform.specs.Maps.{map_of}
use Rattle.mapform.specs.Reading.{mappable, map_answer, list_of}
use Rattle.mapform.proofs.Puts.{map_length}
use Rattle.map_laws.proofs.Apart.{Apart, apart_test}
use Rattle.map_laws.proofs.Round.{written_accepted, written_read}
use Rattle.map_laws.specs.Kept.{size_of, front_of}

-- objects beside each other pair by pair share no byte
pairs_apart : (os : List Obj) → Pairwise os → Apart os
pairs_apart [] p = tt
pairs_apart (o ∷ os) p = (all_map (λ x k. k.0) os p.1, pairs_apart os p.2)

-- THE LIST OF A SOUND STORE is one that a map may be made of
pub list_mappable : (q : ℕ) (s : Store) → 3 ≤ q → sound q s ≡ true → mappable s.area (list_now q s) ≡ true
unfolding mappable
list_mappable q s three holds =
    let os = list_now q s in
    let l = sound_limits q s holds in
    let laid = list_laid q s holds three in
    true_and _ _
    (true_and _ _ (true_and _ _ (le-leb least_area s.area l.area_least) (le-leb s.area most_area l.area_most))
    (le-leb (length os) most_objects (omega (
      arith,
      list_length q s,
      l.few,
    ))))
    (true_and _ _
    (true_and _ _ (all_each object_fits os (all_map fits_test os (list_fits_lem q s holds))) (differ_test os laid.differ))
    (true_and _ _ (all_each (λ o. leb (end_of o) s.area) os (all_map (λ o k. le-leb (end_of o) s.area k) os laid.by))
    (apart_test os (pairs_apart os (besides_pairwise os laid.differ laid.some laid.beside)))))

-- an accepted confirmation
module _ (s : Store) (buf : List ℕ) (e : accepted (confirm_of s (length buf)).answer ≡ true) where
  size : length (map_of (list_now share s)) ≡ size_of s
  size = omega (arith, map_length (by_name (list_now share s)), name_length (list_now share s), list_length share s)

  -- the front of the buffer is the map of the list
  pub front_map : front_of s buf ≡ map_of (list_now share s)
  front_map = rw (le-leb (length (map_of (list_now share s))) (length buf) (omega (arith, size, (confirm_passes s (length buf) e).1)))
      (take_at (map_of (list_now share s)) _ (size_of s) size)

  ok : mappable s.area (list_now share s) ≡ true
  ok = list_mappable share s (omega arith) (confirm_passes s (length buf) e).0

  -- THE BYTES HANDED OUT are accepted, and read back to the list in name order
  pub front_accepted : map_answer s.area (front_of s buf) ≡ Done
  front_accepted = rw front_map (written_accepted s.area (list_now share s) ok)

  pub front_read : list_of s.area (front_of s buf) ≡ by_name (list_now share s)
  front_read = rw front_map (written_read s.area (list_now share s) ok)
