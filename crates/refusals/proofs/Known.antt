-- What the tests ask of a value, by its columns: whether a flush runs, whether a checkpoint is due, how many objects are held and which names.
use mathlib.Core.Path.{◌≡◌, refl, sym, ap, ◌∙◌, subst}
use mathlib.Core.Bool.{true, false, cond, not, ◌&&◌}
use Prim.Native.Nat.{ℕ, suc, ◌≤◌}
use lib.ListN.{length}
use lib.Dec.{ltb, eqb}
use borrow.Author.Tests.{not-true}
use Rattle.rules.specs.House.{share, classes, longest, most_objects, quota_of}
use Rattle.rules.specs.Classes.{volume}
use Rattle.rules.specs.Stores.{resting, flushing, held_by}
use Rattle.rules.specs.Sound.{sound}
use Rattle.rules.specs.Calls.{held, running, due_in, map_size}
use Rattle.rules.proofs.Lists.{and_true}
use Rattle.rules.proofs.Facts.{limits_facts}
use Rattle.rules.proofs.Starts.{sound_parts}
use Rattle.edits.specs.Edits.{find_in}
use Rattle.edits.proofs.Runs.{object_at, listed_run, run_length}
use Rattle.edits.proofs.Finds.{found_held}
use Rattle.state.specs.declared.State.{State}
use Rattle.state.specs.Model.{rests, flush_of, model_of}
use Rattle.state.proofs.Ready.{count_few}
use Rattle.state.proofs.Told.{limits_sound, held_all}

module _ (s : State) where
  -- the area is the store's
  pub area_is : (model_of s).area ≡ s.area
  unfolding model_of
  area_is = refl

  -- a flush runs where the value does not rest
  pub running_is : running (model_of s).stage ≡ not (rests s.flush)
  unfolding model_of
  running_is = elim (rests s.flush) as (λ b. running (cond b resting (flushing (flush_of s))) ≡ not b) [ true ↦ refl | false ↦ refl ]

  -- nothing is due at rest
  rest_due : rests s.flush ≡ true → s.flush.due ≡ false
  unfolding rests
  rest_due e =
      let f = s.flush in
      not-true f.due (and_true (eqb f.deleted 0) (not f.due)
      (and_true (eqb f.boundary 0 && eqb f.made 0) (eqb f.deleted 0 && not f.due) e).1).1

  pub due_is : due_in (model_of s).stage ≡ s.flush.due
  unfolding model_of
  due_is = (elim (rests s.flush) as
      (λ b. rests s.flush ≡ b → due_in (cond b resting (flushing (flush_of s))) ≡ s.flush.due) [
        | true ↦ λ e. sym
            (rest_due e)
        | false ↦ λ e. refl
      ]) refl

  module _ (ok : sound share (model_of s) ≡ true) where
    -- no more objects than may live
    pub few : s.count ≤ most_objects
    few = count_few s (limits_sound s ok)

    -- their volume is within the quota
    pub volume_most : volume (held_by (model_of s)) ≤ quota_of share longest s.area
    volume_most =
        subst (λ (a : ℕ). volume (held_by (model_of s)) ≤ quota_of share longest a) area_is
        (limits_facts share (model_of s).area (held_by (model_of s)) (sound_parts share (model_of s) (model_of s).stage refl ok).0).quota

    module _ (n : length s.regions.sizes ≡ suc classes) where
      -- as many are held as the value counts
      pub count_is : length (held_by (model_of s)) ≡ s.count
      count_is =
          ap length (held_all s ok n) ∙ ap length (listed_run s.objects.names s.objects.places s.objects.lens s.count 0)
          ∙ run_length (object_at s.objects.names s.objects.places s.objects.lens) s.count 0

      -- a name is held where the search finds it
      pub held_is : (name : ℕ) → held (model_of s) name ≡ ltb (find_in s.objects.names s.count name) s.count
      held_is name = rw (held_all s ok n) (found_held s.objects.names s.objects.places s.objects.lens s.count name)

      -- the size of the map
      pub size_is : (room : ℕ) → ltb room (map_size (length (held_by (model_of s)))) ≡ ltb room (map_size s.count)
      size_is room = rw count_is
