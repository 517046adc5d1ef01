-- Law 9 for confirmations: one that is not due changes nothing, one that is due but not last only closes its wait, and the last
-- one gives a store at rest that is sound.
use mathlib.Core.Path.{◌≡◌, refl, sym, subst}
use mathlib.Core.Logic.{inl, inr}
use mathlib.Core.Bool.{true, false}
use mathlib.Core.List.{[]}
use Prim.Native.Nat.{ℕ, ◌≤◌}
use native.Mathlib.Omega.{arith}
use Rattle.rules.specs.House.{share}
use Rattle.rules.specs.Classes.{by_place}
use Rattle.rules.specs.Flush.{live, rebound, plan}
use Rattle.rules.specs.Stores.{Store, flushing, Flush, start_in, places_now, settled_store}
use Rattle.rules.specs.Sound.{sound}
use Rattle.rules.specs.Calls.{confirm_in, confirm_of}
use Rattle.rules.proofs.Facts.{limits_facts}
use Rattle.rules.proofs.SoundKept.{rest_sound}
use Rattle.rules.proofs.Starts.{sound_parts}
use Rattle.rules.proofs.Plays.{moves_left}
use Rattle.rules.proofs.Steps.{OnCourseAt, sound_on, confirm_early, Closed, confirm_law}
use Rattle.rules.proofs.Ends.{played_kinds}
use Rattle.rules.proofs.Accepted.{confirm_cases}
use Rattle.rules.proofs.FlushKept.{sound_at}
use Rattle.rules.proofs.FlushSafe.{Settled, plan_safe}
use Rattle.rules.proofs.Begun.{sound_begins}
use Rattle.rules.proofs.Laid.{flush_laid}
use Rattle.rules.proofs.SettledKept.{safe_ends, settled_rest, settled_limits}

module _ (q : ℕ) (s : Store) (f : Flush) (three : 3 ≤ q) (runs : s.stage ≡ flushing f) (holds : sound q s ≡ true) where
  -- the last confirmation gives a sound store at rest
  last_sound : f.made ≡ moves_left (plan q (start_in s f)) → sound q (settled_store q s f) ≡ true
  last_sound all =
      let begins = sound_begins q s f three runs holds in
      let start = start_in s f in
      let end : Settled q start (places_now q s f) = rw all (safe_ends (Settled q start) (plan q start) (live start) [] (plan_safe begins [] tt)) in
      let laid = flush_laid begins f.made in
      let same = sym (played_kinds (plan q start) f.made (live start)) in
      rest_sound q s.area (rebound start) (by_place (places_now q s f)) (record {
        limits = settled_limits begins (places_now q s f) end laid same s.area
            (limits_facts q s.area (live start) (sound_parts q s (flushing f) runs holds).0);
        rest = settled_rest begins (places_now q s f) end laid same;
      })

  -- a confirmation in a flush keeps soundness
  pub confirm_sound : sound q (confirm_in q s (flushing f)) ≡ true
  confirm_sound = (elim f.due as (λ b. f.due ≡ b → sound q (confirm_in q s (flushing f)) ≡ true) [
    | false ↦ λ e. rw (confirm_early q s f e) holds
    | true ↦ λ e. closes (confirm_law q s f (subst (OnCourseAt q s) runs (sound_on q s holds)) e)
  ]) refl
    where
      closes : Closed q s f → sound q (confirm_in q s (flushing f)) ≡ true
      closes c = elim c.outcome [
        | inl k ↦ rw k.2 (last_sound k.0)
        | inr k ↦ rw k.1 (sound_at q s f f.made false runs holds k.2.fits)
      ]

-- CONFIRM keeps soundness
pub confirm_keeps : (s : Store) (room : ℕ) → sound share s ≡ true → sound share (confirm_of s room).store ≡ true
confirm_keeps s room holds =
    confirm_cases (λ o. sound share o.store ≡ true) s (λ a e. holds) room (λ r k. holds) (λ f runs k. confirm_sound share s f (omega arith) runs holds)
