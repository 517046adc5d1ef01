-- What the tests before the layout show of a flush, and what the layout then tells of its plan.
-- The footprint law bounds each payload, and the boundary is a class; the layout's columns are those of the rules' plan, which turns plays.
use mathlib.Core.Path.{◌≡◌, refl}
use mathlib.Core.Logic.{inl, inr}
use mathlib.Core.Bool.{true, ◌&&◌}
use mathlib.Core.List.{List, [], ◌∷◌}
use Prim.Native.Nat.{ℕ, zero, suc, ◌+◌, ◌-◌, ◌*◌, ◌≤◌, ◌<◌}
use native.Mathlib.Omega.{arith}
use native.Mathlib.Nat.{mul-div-le}
use lib.ListN.{length, get_or, set, length-set, get_or-eq_default}
use borrow.Author.Tests.{eqb-true, leb-true}
use Rattle.rules.specs.House.{share, classes, longest, most_objects, quota_of, most_area}
use Rattle.rules.specs.Classes.{Obj, class_of, volume}
use Rattle.rules.specs.Regions.{Regions, footprint}
use Rattle.rules.specs.Boundary.{boundary_of}
use Rattle.rules.proofs.Lists.{and_true}
use Rattle.rules.proofs.Facts.{Rest, rest_facts, clean_test, Fits, Limits, limits_facts}
use Rattle.rules.proofs.Tables.{trio}
use Rattle.rules.proofs.ClassLaws.{class_bounds}
use Rattle.rules.proofs.Boundary.{boundary_greatest}
use Rattle.rules.proofs.Geometry.{region_ends}
use Rattle.rules.proofs.Footprint.{clean_first, footprint_law}
use Rattle.rules.proofs.Runs.{listed_length, listed_at}
use Rattle.edits.specs.Edits.{objects}
use Rattle.layout.specs.Layout.{Small, layout_of}
use Rattle.layout.proofs.Longest.{longest_each}
use Rattle.flush_laws.proofs.Laid.{Laid, laid, plan_laid}
use Rattle.plan.specs.declared.Ahead.{Ahead}
use Rattle.plan.specs.Turns.{may_be_due}
use Rattle.flush_laws.proofs.Rules.{Short, due_fits_lem}
use Rattle.state.specs.declared.State.{State}
use Rattle.state.specs.Model.{sizes_in, regions_in}
use Rattle.state.specs.Tests.{limits_in, rules_in, quota_in, boundary_in, start_at, new_at, plan_in, layout_in, ahead_by, Ready}

-- within the quota the footprint is small
pub footprint_small : (a : ℕ) (t : Regions) (os : List Obj) (gone : ℕ) → a ≤ most_area → Rest share t os gone
    → volume os + gone ≤ quota_of share longest a → footprint share t.sizes ≤ 16777216
unfolding quota_of
footprint_small a t os gone l rest q = omega (arith, footprint_law share t os gone rest, mul-div-le ((share - 1) * (a - 2 * longest)) (share + 3))

-- so is each payload
pub first_zero : (xs : List ℕ) → get_or (set xs 0 0) 0 0 ≡ 0
first_zero [] = refl
first_zero (x ∷ xs) = refl

pub sizes_small : (sizes : List ℕ) → length sizes ≡ suc classes → footprint share (set sizes 0 0) ≤ 16777216 → Small (set sizes 0 0)
sizes_small sizes n f zero = omega (arith, first_zero sizes)
sizes_small sizes n f (suc k) = elim (trio (suc classes) (suc k)) [
  | inl l ↦ omega (arith, beyond (omega arith))
  | inr m ↦ elim m [
    | inl e ↦ omega (arith, beyond (omega arith))
    | inr l ↦ omega
        (arith, region_ends share (set sizes 0 0) (suc k) (omega arith) (omega arith))
  ]
]
  where
    beyond : suc classes ≤ suc k → get_or (set sizes 0 0) (suc k) 0 ≡ 0
    beyond l = get_or-eq_default (set sizes 0 0) 0 (omega (arith, length-set sizes 0 0))

module _ (s : State) where
  pub limits_of : limits_in s ≡ true → Limits share s.area (objects s.objects s.count)
  unfolding limits_in
  limits_of e = limits_facts share s.area (objects s.objects s.count) e

  -- the limits bound the number of objects
  pub count_few : limits_in s ≡ true → s.count ≤ most_objects
  count_few e = omega (arith, (limits_of e).few, listed_length s.objects.names s.objects.places s.objects.lens 0 s.count)

  -- and each length
  pub length_some : limits_in s ≡ true → (j : ℕ) → j < s.count → (1 ≤ get_or s.objects.lens j 0) × (get_or s.objects.lens j 0 ≤ longest)
  length_some e j l =
      let f = listed_at Fits s.objects.names s.objects.places s.objects.lens s.count 0 (limits_of e).fits j (omega arith) (omega arith) in
      (f.some_length, f.length_fits)

  module _ (old len : ℕ) (limits : limits_in s ≡ true) (part : old ≤ s.count) (some : 1 ≤ len) (most : len ≤ longest) where
    rest_of : rules_in s old ≡ true → Rest share (regions_in s.regions) (objects s.objects old) s.flush.deleted
    unfolding rules_in
    rest_of e = rest_facts share (regions_in s.regions) (objects s.objects old) s.flush.deleted e

    quota_of_lem : quota_in s old ≡ true → volume (objects s.objects old) + s.flush.deleted ≤ quota_of share longest s.area
    unfolding quota_in
    quota_of_lem e = leb-true _ _ e

    boundary_of_lem : boundary_in s len ≡ true → s.flush.boundary ≡ boundary_of s.regions.useds s.regions.lowests (class_of len)
    unfolding boundary_in
    boundary_of_lem e = eqb-true _ _ e

    -- READY: what the tests show
    pub ready : length s.regions.sizes ≡ suc classes → boundary_in s len ≡ true → (rules_in s old && quota_in s old) ≡ true → Ready s old
    unfolding sizes_in
    ready n b e =
        let p = and_true (rules_in s old) (quota_in s old) e in
        let rest = rest_of p.0 in
        let c = class_bounds len some most in
        let g = boundary_greatest s.regions.useds s.regions.lowests (clean_test (regions_in s.regions) 1 (clean_first rest)) (class_of len) c.0 in
        record {
          part = part;
          few = count_few limits;
          least = omega (arith, boundary_of_lem b, g.least);
          most = omega (arith, boundary_of_lem b, g.within, c.1);
          short = λ j l. (length_some limits j l).1;
          small = sizes_small s.regions.sizes n
              (footprint_small s.area (regions_in s.regions) (objects s.objects old) s.flush.deleted (limits_of limits).area_most rest
              (quota_of_lem p.1));
        }

  -- no length is above what a run may take
  pub short_in : (old : ℕ) → Short (layout_in s old).kinds s.objects.lens (layout_in s old).limit s.count
  unfolding layout_of
  short_in old i l e = omega (arith, longest_each s.objects.lens s.count 0 i (omega arith) (omega arith))

  module _ (old : ℕ) (r : Ready s old) where
    -- the layout is that of the flush
    pub laid_in : Laid (start_at s old) s.objects.names s.objects.places s.objects.lens old s.count (layout_in s old)
    laid_in =
        laid (regions_in s.regions) s.flush.boundary s.objects.names s.objects.places s.objects.lens old s.count r.part r.few
        r.least
        (inr (λ j l. r.short j (omega (arith, r.part))))

    -- THE PLAN by the columns of the layout
    pub plan_by_lem : (a : Ahead) → a ≡ ahead_by s (layout_in s old) old s.flush.made
        → plan_in s old ≡ new_at s old (layout_in s old).next && may_be_due a.total s.flush.made a.next s.flush.due
    unfolding plan_in
    plan_by_lem a e = rw (
      e,
      laid_in.next_is,
      plan_laid laid_in,
      due_fits_lem (layout_in s old).kinds s.objects.names s.objects.places (layout_in s old).middles (layout_in s old).finals s.objects.lens
          (layout_in s old).limit old s.count (short_in old) s.flush.made s.flush.due,
    )
