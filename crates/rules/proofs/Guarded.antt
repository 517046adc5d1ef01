-- Why no write meets a page of the last map kept. At rest such pages are clear (law 10), and an insert writes only on unused bytes. While a flush
-- runs each of them is held now or was since the last wait, and what is yet to be done of the plan is safe with these (law 6): so the host may
-- confirm in mid-run.
use mathlib.Core.Path.{◌≡◌, refl, sym, subst}
use mathlib.Core.Logic.{◌⊎◌, inl, inr}
use mathlib.Core.Bool.{true, false}
use mathlib.Core.List.{List, ◌∷◌, ◌++◌}
use Prim.Native.Nat.{ℕ, ◌≤◌}
use native.Mathlib.Omega.{arith}
use Rattle.rules.specs.House.{share}
use Rattle.rules.specs.Classes.{Obj}
use Rattle.rules.specs.Flush.{live, move, plan, played, ahead, at_wait}
use Rattle.rules.specs.Stores.{Store, Stage, resting, flushing, Flush, at_stage, start_in, ahead_of, advanced, places_now}
use Rattle.rules.specs.Sound.{sound}
use Rattle.rules.specs.Calls.{insert_above, insert_into, insert_flush, inserted, deleted, confirm_in}
use Rattle.rules.proofs.Lists.{All, In, all_in_lem, all_map}
use Rattle.rules.proofs.Names.{in_left, in_right}
use Rattle.rules.proofs.Clear.{Clear}
use Rattle.rules.proofs.Limits.{inserted_cases, deleted_cases}
use Rattle.rules.proofs.Steps.{todo, todo_now, OnCourseAt, sound_on, Stepped, Closed, confirm_law, confirm_early}
use Rattle.rules.proofs.Safe.{Safe, safe_weaken}
use Rattle.rules.proofs.Begun.{sound_plan_safe}
use Rattle.rules.proofs.KeptClear.{all_end, settled_clear}

-- while a flush runs
pub record Shielded (s : Store) (f : Flush) (kept : List Obj) : Type 0 where
  pub seen : List Obj
  pub safe : Safe (todo (ahead_of share s f) f.due) (λ n e. Unit {0}) (places_now share s f) seen
  pub covered : All (λ o. In o (places_now share s f) ⊎ In o seen) kept

-- at any stage
abbrev pub Guarded : Store → Stage → List Obj → Type 0
Guarded s resting kept = All (Clear share s.regions) kept
Guarded s (flushing f) kept = Shielded s f kept

-- a flush has just begun, if one runs
abbrev pub Fresh : Store → Stage → Type 0
Fresh s resting = Unit {0}
Fresh s (flushing f) = (f.made ≡ 0) × (f.due ≡ at_wait (plan share (start_in s f)))

-- so it is after a request
pub inserted_fresh : (s : Store) (n : ℕ) (page : List ℕ) → let w = (inserted share s n page).store in Fresh w w.stage
unfolding insert_above insert_into insert_flush
inserted_fresh s n page = inserted_cases (λ o. Fresh o.store o.store.stage) share s n page (λ top. tt) (λ j r. tt) (refl, refl)

pub deleted_fresh : (s : Store) (n len : ℕ) → let w = (deleted share s n len).store in Fresh w w.stage
deleted_fresh s n len = deleted_cases (λ o. Fresh o.store o.store.stage) share s n len (λ j r. tt) (refl, refl)

-- WHERE A FLUSH BEGINS, or none does, pages that are clear are guarded
pub fresh_guarded : (s : Store) (g : Stage) → s.stage ≡ g → sound share s ≡ true → Fresh s g → (kept : List Obj) → All (λ o. 1 ≤ o.len) kept
    → All (Clear share s.regions) kept → Guarded s g kept
unfolding ahead played
fresh_guarded s resting p holds fresh kept some clear = clear
fresh_guarded s (flushing f) p holds fresh kept some clear = record {
  seen = kept;
  safe = rw (fresh.1, fresh.0, todo_now (plan share (start_in s f)))
      (safe_weaken (λ n e k. tt) (plan share (start_in s f)) (live (start_in s f)) kept
      (sound_plan_safe share s f (omega arith) p holds kept (all_end share s.regions kept some clear)));
  covered = all_in_lem (λ o. In o (places_now share s f) ⊎ In o kept) kept (λ o m. inr m);
}

-- what is safe of a step: its move starts where its object lies, and its target misses what is held and what was since the last wait
pub step_safe : (s : Store) (f : Flush) (kept : List Obj) (g : Shielded s f kept) (law : Stepped share s f)
    → Safe (move law.next ∷ law.rest) (λ n e. Unit {0}) (places_now share s f) g.seen
step_safe s f kept g law = rw law.taken at g.safe

-- A STEP leaves the pages kept guarded
pub step_guarded : (s : Store) (f : Flush) (kept : List Obj) → Shielded s f kept → Stepped share s f
    → Shielded (at_stage s (flushing (advanced share s f))) (advanced share s f) kept
step_guarded s f kept g law = record {
  seen = places_now share s f ++ g.seen;
  safe = rw (law.left, law.places) (step_safe s f kept g law).3;
  covered = all_map (λ o m. inr (elim m [
    | inl k ↦ in_left o (places_now share s f) g.seen k
    | inr k ↦ in_right o (places_now share s f)
        g.seen k
  ])) kept g.covered;
}

-- A CONFIRMATION guards the pages of the map that it hands out, due or not
pub confirm_guarded : (s : Store) (f : Flush) (kept : List Obj) → s.stage ≡ flushing f → sound share s ≡ true → Shielded s f kept
    → let w = confirm_in share s (flushing f) in Guarded w w.stage (places_now share s f)
confirm_guarded s f kept runs holds g = (elim f.due as (λ b. f.due ≡ b → Target (confirm_in share s (flushing f))) [
  | false ↦ λ e. rw (confirm_early share s f e) (subst (λ k. Guarded s k (places_now share s f)) (sym runs) (record {
    seen = g.seen;
    safe = g.safe;
    covered = all_in_lem _ (places_now share s f) (λ o m. inl m);
  }))
  | true ↦ λ e. closed e (confirm_law share s f (subst (OnCourseAt share s) runs (sound_on share s holds)) e)
]) refl
  where
    Target : Store → Type 0
    Target w = Guarded w w.stage (places_now share s f)

    closed : f.due ≡ true → Closed share s f → Target (confirm_in share s (flushing f))
    closed e c = elim c.outcome [
      | inl k ↦ rw k.2 (settled_clear share s f (omega arith) runs holds k.2)
      | inr k ↦ rw k.1 (record {
        seen = places_now share s f;
        safe = rw c.first (rw (e, c.first) at g.safe);
        covered = all_in_lem _ (places_now share s f) (λ o m. inl m);
      })
    ]
