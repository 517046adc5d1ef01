-- The list in a sound store: its objects have the names and lengths of those held, lie within the area and lie apart, at rest and in the middle of a flush.
use mathlib.Core.Path.{◌≡◌, refl, sym, ap, ◌∙◌, subst}
use mathlib.Core.Logic.{inl}
use mathlib.Core.Bool.{true}
use mathlib.Core.List.{[], ◌∷◌}
use Prim.Native.Nat.{ℕ, ◌≤◌, ◌<◌}
use native.Mathlib.Omega.{arith}
use lib.ListN.{length}
use lib.Dec.{eqb}
use Rattle.rules.specs.House.{most_area}
use Rattle.rules.specs.Classes.{Obj, end_of}
use Rattle.rules.specs.Regions.{footprint}
use Rattle.rules.specs.Flush.{live, overflow_end, plan}
use Rattle.rules.specs.Stores.{Store, Stage, resting, flushing, start_in, places_now, held_at, held_by, list_at, list_now}
use Rattle.rules.specs.Sound.{sound}
use Rattle.rules.specs.Calls.{named, held}
use Rattle.rules.proofs.Lists.{All, In, in_all, all_map}
use Rattle.rules.proofs.Facts.{Fits, Distinct, Limits, limits_facts}
use Rattle.rules.proofs.Starts.{sound_parts}
use Rattle.rules.proofs.Names.{kinds, fits_kinds, kinds_length, twin, distinct_kinds, filter_in}
use Rattle.rules.proofs.Ends.{played_kinds}
use Rattle.rules.proofs.Limits.{is_held}
use Rattle.rules.proofs.RestKept.{named_one}
use Rattle.rules.proofs.Accepted.{sound_resting}
use Rattle.rules.proofs.Writes.{footprint_within}
use Rattle.rules.proofs.StepWithin.{By}
use Rattle.rules.proofs.Begun.{sound_begins}
use Rattle.rules.proofs.Laid.{chain_besides, Laid, flush_laid}
use Rattle.rules.proofs.KeptClear.{sound_clear, all_end}

-- the list has the names and lengths of the objects held
pub list_kinds : (q : ℕ) (s : Store) → kinds (list_now q s) ≡ kinds (held_by s)
unfolding list_now
list_kinds q s = by_stage s.stage
  where
    by_stage : (g : Stage) → kinds (list_at q s g) ≡ kinds (held_at s g)
    by_stage resting = refl
    by_stage (flushing f) = played_kinds (plan q (start_in s f)) f.made (live (start_in s f))

-- and is as long
pub list_length : (q : ℕ) (s : Store) → length (list_now q s) ≡ length (held_by s)
list_length q s = sym (kinds_length (list_now q s)) ∙ ap length (list_kinds q s) ∙ kinds_length (held_by s)

module _ (q : ℕ) (s : Store) (holds : sound q s ≡ true) where
  pub sound_limits : Limits q s.area (held_by s)
  sound_limits = limits_facts q s.area (held_by s) (sound_parts q s s.stage refl holds).0

  -- names differ
  pub list_distinct : Distinct (list_now q s)
  list_distinct = distinct_kinds (held_by s) (list_now q s) (sym (list_kinds q s)) sound_limits.differ

  -- names and lengths are in their limits
  pub list_fits_lem : All Fits (list_now q s)
  list_fits_lem = fits_kinds (held_by s) (list_now q s) (sym (list_kinds q s)) sound_limits.fits

  -- a name that is held is that of an object of the list
  pub list_held : (n : ℕ) → held s n ≡ true → 0 < length (named n (list_now q s))
  list_held n e =
      let h = is_held n (held_by s) e in
      let w = twin (list_now q s) (held_by s) (list_kinds q s) h.object h.among in
      let one : named n (list_now q s) ≡ w.0 ∷ [] = subst (λ (k : ℕ). named k (list_now q s) ≡ w.0 ∷ []) (w.2 ∙ h.called)
      (named_one w.0 (list_now q s) list_distinct w.1) in
      rw one (omega arith)

  -- THE OBJECTS LIE APART, and within the area
  pub list_laid : 3 ≤ q → Laid s.area (list_now q s)
  unfolding list_now
  list_laid three = by_stage s.stage refl
    where
      by_stage : (g : Stage) → s.stage ≡ g → Laid s.area (list_at q s g)
      by_stage resting p =
          let r = sound_resting q s p holds in
          let top : footprint q s.regions.sizes ≤ s.area = rw p at (footprint_within q s (omega arith) holds) in
          let some = all_map (λ o k. k.some_length) s.objects r.limits.fits in
          record {
            differ = r.limits.differ;
            some = some;
            beside = chain_besides 0 s.objects r.rest.apart;
            by = all_map (λ o k. omega (arith, k, top)) s.objects (all_end q s.regions s.objects some (sound_clear q s p holds));
          }
      by_stage (flushing f) p =
          let top : overflow_end q (start_in s f) ≤ s.area = rw p at (footprint_within q s (omega arith) holds) in
          let l = flush_laid (sound_begins q s f three p holds) f.made in
          record { differ = l.differ; some = l.some; beside = l.beside; by = all_map (λ o k. omega (arith, k, top)) (places_now q s f) l.by }

  pub list_within : 3 ≤ q → All (By s.area) (list_now q s)
  list_within three = (list_laid three).by

  -- so an object has an address, since it has a first byte
  pub list_low : 3 ≤ q → (n : ℕ) (o : Obj) → named n (list_now q s) ≡ o ∷ [] → (end_of o ≤ s.area) × (o.at < most_area)
  unfolding named
  list_low three n o e = there (filter_in (λ (x : Obj). eqb x.name n) (list_now q s) o (rw e (inl refl))).0
    where
      there : In o (list_now q s) → (end_of o ≤ s.area) × (o.at < most_area)
      there m =
          let w = in_all (By s.area) (list_now q s) (list_within three) o m in
          (w, omega (arith, w, (in_all Fits (list_now q s) list_fits_lem o m).some_length, sound_limits.area_most))
