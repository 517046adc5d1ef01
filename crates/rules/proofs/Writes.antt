-- What the quota means for the calls (law 5): what an insert writes, at rest or straight into overflow, ends within the area, and so does the
-- footprint reported, at rest and in a flush.
use mathlib.Core.Path.{◌≡◌, refl}
use mathlib.Core.Bool.{true}
use mathlib.Core.List.{List, [], ◌∷◌}
use Prim.Native.Nat.{ℕ, ◌+◌, ◌*◌, ◌≤◌}
use native.Mathlib.Omega.{arith}
use lib.ListN.{length}
use Rattle.rules.specs.House.{classes, longest}
use Rattle.rules.specs.Classes.{Obj, class_of, volume}
use Rattle.rules.specs.Regions.{Regions}
use Rattle.rules.specs.Flush.{live}
use Rattle.rules.specs.Stores.{Store, Stage, resting, flushing, storing, resting_at, start_by, start_in, footprint_at}
use Rattle.rules.specs.Sound.{stage_holds, sound}
use Rattle.rules.specs.Calls.{Write, object, insert_above, insert_into, insert_flush, inserted}
use Rattle.rules.proofs.Lists.{volume_append}
use Rattle.rules.proofs.Facts.{rest_facts, limits_facts}
use Rattle.rules.proofs.ClassLaws.{class_bounds}
use Rattle.rules.proofs.Limits.{Room, inserted_cases}
use Rattle.rules.proofs.SoundKept.{AtRest, MayInsert}
use Rattle.rules.proofs.Starts.{gone_by, boundary_by, request_starts, sound_parts, sound_starts}
use Rattle.rules.proofs.Quota.{overflow_fits, new_place_fits, raise_fits, footprint_fits, entry_fits_lem}

-- a write ends within the first a bytes
abbrev pub EndsIn : ℕ → Write → Type 0
EndsIn a w = w.at + length w.bytes ≤ a

module _ (q a : ℕ) (t : Regions) (os : List Obj) (n : ℕ) (page : List ℕ) (wide : 2 ≤ q) (at_rest : AtRest q a t os)
    (may : MayInsert q a os n page) where
  large : 2 * longest ≤ a
  large = omega (arith, at_rest.limits.area_least)

  above_within : EndsIn a (insert_above q (resting_at a t os) n page).write
  unfolding insert_above
  above_within = raise_fits q a t os wide large at_rest.rest (length page) may.quota

  into_within : (j : ℕ) → Room q t.sizes t.useds (length page) (class_of (length page)) classes j
      → EndsIn a (insert_into q (resting_at a t os) n page j).write
  unfolding insert_into
  into_within j r =
      omega (
        arith,
        entry_fits_lem q a t os wide large at_rest.rest (omega (arith, may.quota)) j (length page)
            (omega (arith, r.up, class_bounds (length page) may.some_length may.length_fits)) r.within r.fits,
      )

  flush_within : EndsIn a (insert_flush q (resting_at a t os) n page).write
  unfolding insert_flush volume
  flush_within =
      let o = object n 0 page in
      let r = storing o in
      let s = start_by t os r (boundary_by t r) in
      new_place_fits q a s o refl (overflow_fits q a 0 s wide large
      (request_starts q a t os r at_rest.rest at_rest.limits.fits (may.some_length, may.length_fits) (omega (arith, may.quota))
      (omega (arith, may.quota, volume_append os (o ∷ [])))))

  -- AN INSERT writes within the area
  pub insert_within : EndsIn a (inserted q (resting_at a t os) n page).write
  insert_within = inserted_cases (λ o. EndsIn a o.write) q (resting_at a t os) n page (λ top. above_within) into_within flush_within

-- THE FOOTPRINT REPORTED is within the area
pub footprint_within : (q : ℕ) (s : Store) → 2 ≤ q → sound q s ≡ true → footprint_at q s s.stage ≤ s.area
unfolding stage_holds
footprint_within q s wide e = by_stage s.stage refl
  where
    by_stage : (g : Stage) → s.stage ≡ g → footprint_at q s g ≤ s.area
    by_stage resting p =
        let k = sound_parts q s resting p e in
        let l = limits_facts q s.area s.objects k.0 in
        footprint_fits q s.area s.regions s.objects wide (omega (arith, l.area_least)) (rest_facts q s.regions s.objects 0 k.1) l.quota
    by_stage (flushing f) p =
        let l = limits_facts q s.area (live (start_in s f)) (sound_parts q s (flushing f) p e).0 in
        overflow_fits q s.area (gone_by f.request) (start_in s f) wide (omega (arith, l.area_least)) (sound_starts q s f p e)
