-- What the calls come to. A refused call hands back the same store and writes nothing; every test gives a refusal, so an accepted call has
-- passed them all.
use Rattle.std.specs.Prelude.{Err}
use mathlib.Core.Path.{◌≡◌, refl, sym, ap, ◌∙◌}
use mathlib.Core.Bool.{Bool, true, false, cond}
use mathlib.Core.List.{List, [], ◌∷◌, ◌++◌}
use Prim.Native.Nat.{ℕ}
use lib.ListN.{length}
use lib.Dec.{ltb}
use Rattle.rules.specs.House.{share}
use Rattle.rules.specs.Classes.{volume}
use Rattle.rules.specs.Flush.{Move}
use Rattle.rules.specs.Sound.{sound}
use Rattle.rules.specs.Stores.{Store, resting, flushing, Flush, ahead_of, list_now, held_by}
use Rattle.rules.specs.Answers.{Test, first, accepted}
use Rattle.rules.specs.Calls.{Outcome, written, answering, unless_refused, test, running, due_in, named, store_tests, name_tests, insert_tests, inserted}
use Rattle.rules.specs.Calls.{insert_of, deleted, delete_of, next_move, stepped, step_in, step_of, map_size, confirm_in, confirm_of}
use Rattle.rules.specs.declared.Answer.{Answer}
use Rattle.rules.specs.declared.Answer.TheVariants.{Done, Running, Busy, CheckpointDue, ShortBuffer}
use Rattle.rules.proofs.Lists.{clash}
use Rattle.rules.proofs.Refusals.{Refusals}
use Rattle.state.specs.declared.State.{State}
use Rattle.refusals.specs.Tests.{passed as tested}
use Rattle.refusals.proofs.Firsts.{is_refusal, refused as all_refused}
use Rattle.rules.proofs.Accepted.{confirm_cases}
use Rattle.mapform.specs.Maps.{map_of, put_into}
use Rattle.store.specs.Served.{map_into}

chosen : {A : Type 0} (b : Bool) (x y : A) → b ≡ true → cond b x y ≡ x
chosen b x y e = rw e

left_out : {A : Type 0} (b : Bool) (x y : A) → b ≡ false → cond b x y ≡ y
left_out b x y e = rw e

-- the outcome o of a call on s: a refusal by its tests, or what is done where none applies
pub record Tested (s : Store) (ts : List Test) (done o : Outcome) : Type 0 where
  pub refuse : Refusals ts
  pub comes_to : o ≡ unless_refused s (first ts) done

module _ {s : Store} {ts : List Test} {done o : Outcome} (call : Tested s ts done o) where
  -- with what its tests come to
  pub refused : (v : State) {a : Answer} → Err a ≡ tested v (first ts) → answering s a ≡ o
  refused v e =
      ap (answering s) (is_refusal v e)
      ∙ sym (call.comes_to ∙ left_out (accepted (first ts)) done (answering s (first ts)) (all_refused v ts call.refuse e))

  pub refusal : (v : State) {a : Answer} → Err a ≡ tested v (first ts) → accepted a ≡ false
  refusal v e = ap accepted (is_refusal v e) ∙ all_refused v ts call.refuse e

  -- where all tests passed
  pub goes : first ts ≡ Done → o ≡ done
  goes e = call.comes_to ∙ chosen (accepted (first ts)) done (answering s (first ts)) (ap accepted e)

  pub never_refused : accepted done.answer ≡ true → first ts ≡ Done → {a : Answer} → a ≡ o.answer → accepted a ≡ false → ⊥
  never_refused done-accepted e answers q = clash (ap accepted (answers ∙ ap (λ (w : Outcome). w.answer) (goes e)) ∙ done-accepted) q

-- an outcome that only answers: the answer, the same store, and a lent buffer as it was
module _ {s : Store} {a : Answer} {o : Outcome} (e : answering s a ≡ o) where
  pub answer_is : a ≡ o.answer
  answer_is = ap (λ (w : Outcome). w.answer) e

  pub store_is : s ≡ o.store
  store_is = ap (λ (w : Outcome). w.store) e

  pub untouched : (bs : List ℕ) → bs ≡ written bs o.write
  untouched bs = ap (λ (w : Outcome). written bs w.write) e

-- INSERT
pub insert_call : (s : Store) (lent n : ℕ) (page : List ℕ) → Tested s (insert_tests s lent n page) (inserted share s n page) (insert_of s lent n page)
unfolding insert_of
insert_call s lent n page = record { refuse = (refl, (refl, (refl, (refl, (refl, (refl, (refl, (refl, tt)))))))); comes_to = refl }

-- DELETE
pub delete_call : (s : Store) (n : ℕ)
    → Tested s (store_tests s s.area ++ (test (running s.stage) Busy ∷ name_tests s n)) (deleted share s n (volume (named n s.objects)))
    (delete_of s n)
unfolding delete_of
delete_call s n = record { refuse = (refl, (refl, (refl, (refl, (refl, tt))))); comes_to = refl }

-- STEP
module _ (s : Store) (area : List ℕ) where
  abbrev pub step_tests : List Test
  step_tests = store_tests s (length area) ++ (test (due_in s.stage) CheckpointDue ∷ [])

  pub step_call : Tested s step_tests (step_in share s area s.stage) (step_of s area)
  unfolding step_of
  step_call = record { refuse = (refl, (refl, (refl, tt))); comes_to = refl }

  pub step_rests : first step_tests ≡ Done → s.stage ≡ resting → answering s Done ≡ step_of s area
  step_rests e p = sym (goes step_call e ∙ ap (step_in share s area) p)

  pub step_runs : first step_tests ≡ Done → (f : Flush) → s.stage ≡ flushing f → Running ≡ (step_of s area).answer
  step_runs e f p = sym (ap (λ (o : Outcome). o.answer) (goes step_call e ∙ ap (step_in share s area) p) ∙ by_move (next_move (ahead_of share s f)))
    where
      by_move : (ms : List Move) → (stepped share s f area ms).answer ≡ Running
      by_move [] = refl
      by_move (m ∷ ms) = refl

-- CONFIRM
module _ (s : Store) (buf : List ℕ) where
  abbrev pub confirm_tests : List Test
  confirm_tests = store_tests s s.area ++ (test (ltb (length buf) (map_size (length (held_by s)))) ShortBuffer ∷ [])

  pub confirm_call : Tested s confirm_tests (answering (confirm_in share s s.stage) Done) (confirm_of s (length buf))
  unfolding confirm_of
  confirm_call = record { refuse = (refl, (refl, (refl, tt))); comes_to = refl }

  -- a refusal leaves the buffer as it is
  pub map_refused : {a : Answer} → answering s a ≡ confirm_of s (length buf) → accepted a ≡ false → buf ≡ map_into s buf
  unfolding map_into
  map_refused e q =
      sym (left_out (accepted (confirm_of s (length buf)).answer) (put_into (map_of (list_now share s)) buf) buf
      (ap (λ (o : Outcome). accepted o.answer) (sym e) ∙ q))

  -- else it takes the map
  pub map_written : first confirm_tests ≡ Done → put_into (map_of (list_now share s)) buf ≡ map_into s buf
  unfolding map_into
  map_written e =
      sym (chosen (accepted (confirm_of s (length buf)).answer) (put_into (map_of (list_now share s)) buf) buf
      (ap (λ (o : Outcome). accepted o.answer) (goes confirm_call e)))
