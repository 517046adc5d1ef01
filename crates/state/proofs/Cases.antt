-- Soundness of what a value stands for is what the tests on its columns come to.
-- By cases: at rest, in a flush that deletes, and in one that stores, the model is written out; then both sides have the same tests in another order.
use mathlib.Core.Path.{◌≡◌, refl, ap, ◌∙◌}
use mathlib.Core.Bool.{Bool, true, false, not, ◌&&◌}
use mathlib.Core.List.{List, [], ◌∷◌, ◌++◌, append-nil}
use Prim.Native.Nat.{ℕ, zero, suc, ◌-◌, ◌≤◌}
use native.Mathlib.Omega.{arith}
use lib.Dec.{eqb}
use lib.ListN.{get_or}
use borrow.Author.Tests.{eqb-true, eqb-false, lt-ltb, le-ltb, le-leb}
use Rattle.rules.specs.House.{share}
use Rattle.rules.specs.Columns.{listed}
use Rattle.rules.specs.Stores.{Store, Request, storing, dropping, resting, flushing}
use Rattle.rules.specs.Sound.{sound, stage_holds, limits_hold}
use Rattle.rules.proofs.Lists.{and_true, is_false, all_right}
use Rattle.rules.proofs.Facts.{Fits, limits_facts}
use Rattle.edits.specs.Edits.{object, objects}
use Rattle.flush_laws.proofs.Picks.{listed_parts}
use Rattle.state.specs.declared.State.{State}
use Rattle.state.specs.Model.{regions_in, rests, object_at, model_of}
use Rattle.state.specs.Tests.{limits_in, rules_in, quota_in, boundary_in, plan_in, request_holds, all_in}

-- tests in another order
turned : (p x d : Bool) → ((p && x) && d) ≡ (x && (p && d))
turned true x d = refl
turned false true d = refl
turned false false d = refl

moved : (b m x d : Bool) → (b && ((m && x) && d)) ≡ (m && (b && (x && d)))
moved b true x d = refl
moved true false x d = refl
moved false false x d = refl

never : (a : Bool) → (a && false) ≡ false
never true = refl
never false = refl

module _ (names places lens : List ℕ) where
  pub none_listed : (n : ℕ) → listed names places lens n (n - n) ≡ []
  unfolding listed
  none_listed n = let e : n - n ≡ 0 = omega arith in rw e

  pub one_listed : (n : ℕ) → 1 ≤ n
      → listed names places lens (n - 1) (n - (n - 1)) ≡ object (get_or names (n - 1) 0) (get_or places (n - 1) 0) (get_or lens (n - 1) 0) ∷ []
  unfolding listed
  one_listed n l = let e : n - (n - 1) ≡ suc zero = omega arith in rw e

module _ (s : State) where
  -- the value's store in a flush, from the number of objects at its start and its request
  abbrev pub in_flush : ℕ → Request → Store
  in_flush old r = record {
    area = s.area;
    regions = regions_in s.regions;
    objects = objects s.objects old;
    stage = flushing (record { request = r; boundary = s.flush.boundary; made = s.flush.made; due = s.flush.due });
  }

  pub model_rest : rests s.flush ≡ true
      → model_of s ≡ record { area = s.area; regions = regions_in s.regions; objects = objects s.objects s.count; stage = resting }
  unfolding model_of
  model_rest e = rw e

  pub model_drop : rests s.flush ≡ false → eqb s.flush.deleted 0 ≡ false → model_of s ≡ in_flush s.count (dropping s.flush.deleted)
  unfolding model_of
  model_drop e d = rw (e, d)

  pub model_store : rests s.flush ≡ false → eqb s.flush.deleted 0 ≡ true → eqb s.count 0 ≡ false
      → model_of s ≡ in_flush (s.count - 1) (storing (object_at s (s.count - 1)))
  unfolding model_of
  model_store e d z = rw (e, d, z)

  model_none : rests s.flush ≡ false → eqb s.flush.deleted 0 ≡ true → eqb s.count 0 ≡ true
      → model_of s ≡ in_flush (s.count - 1) (storing (object 0 0 0))
  unfolding model_of
  model_none e d z = rw (e, d, z)

  pub nothing_deleted : rests s.flush ≡ true → s.flush.deleted ≡ 0
  unfolding rests
  nothing_deleted e =
      let f = s.flush in
      eqb-true f.deleted 0 (and_true (eqb f.deleted 0) (not f.due)
      (and_true (eqb f.boundary 0 && eqb f.made 0) (eqb f.deleted 0 && not f.due) e).1).0

  at_rest : rests s.flush ≡ true → sound share (model_of s) ≡ all_in s
  unfolding sound stage_holds limits_in rules_in all_in
  at_rest e = ap (sound share) (model_rest e) ∙ rw (e, nothing_deleted e)

  dropped : rests s.flush ≡ false → eqb s.flush.deleted 0 ≡ false → sound share (model_of s) ≡ all_in s
  unfolding sound stage_holds limits_in rules_in quota_in boundary_in plan_in request_holds all_in
  dropped e d =
      let some : 1 ≤ s.flush.deleted = omega (arith, eqb-false s.flush.deleted 0 d) in
      ap (sound share) (model_drop e d)
      ∙ rw (
        e,
        d,
        append-nil (objects s.objects s.count),
        none_listed s.objects.names s.objects.places s.objects.lens s.count,
        le-ltb s.count s.count (omega arith),
        le-leb 1 s.flush.deleted some,
        moved,
      )

  stored : rests s.flush ≡ false → eqb s.flush.deleted 0 ≡ true → eqb s.count 0 ≡ false → sound share (model_of s) ≡ all_in s
  unfolding sound stage_holds limits_in rules_in quota_in boundary_in plan_in request_holds all_in
  stored e d z =
      let some : 1 ≤ s.count = omega (arith, eqb-false s.count 0 z) in
      let one = one_listed s.objects.names s.objects.places s.objects.lens s.count some in
      let all = rw one at (listed_parts s.objects.names s.objects.places s.objects.lens (s.count - 1) s.count (omega arith)) in
      ap (sound share) (model_store e d z)
      ∙ rw (
        e,
        d,
        z,
        all,
        one,
        lt-ltb (s.count - 1) s.count (omega arith),
        eqb-true s.flush.deleted 0 d,
        turned,
      )

  none_stored : rests s.flush ≡ false → eqb s.flush.deleted 0 ≡ true → eqb s.count 0 ≡ true → sound share (model_of s) ≡ all_in s
  unfolding sound request_holds all_in
  none_stored e d z =
      let os = objects s.objects (s.count - 1) in
      let no : limits_hold share s.area (os ++ (object 0 0 0 ∷ [])) ≡ false =
      is_false _ (λ t. omega (
        arith,
        (all_right Fits os (object 0 0 0 ∷ []) (limits_facts share s.area (os ++ (object 0 0 0 ∷ [])) t).fits).0.some_name,
      )) in
      ap (sound share) (model_none e d z) ∙ rw (no, e, d, z, never (limits_in s))

  -- SOUNDNESS by the columns
  pub sound_by : sound share (model_of s) ≡ all_in s
  sound_by = (elim (rests s.flush) as (λ b. rests s.flush ≡ b → sound share (model_of s) ≡ all_in s) [
    | true ↦ λ e. at_rest e
    | false ↦ λ e. (elim (eqb s.flush.deleted 0) as (λ b. eqb s.flush.deleted 0 ≡ b → sound share (model_of s) ≡ all_in s) [
      | true ↦ λ d. (elim (eqb s.count 0) as
          (λ b. eqb s.count 0 ≡ b → sound share (model_of s) ≡ all_in s) [ true ↦ λ z. none_stored e d z | false ↦ λ z. stored e d z ]) refl
      | false ↦ λ d. dropped e d
    ]) refl
  ]) refl
