-- What a call's answer tells of its store: which flush begins, or that the store is at rest.
use mathlib.Core.Path.{◌≡◌, refl, sym, ap, ◌∙◌}
use mathlib.Core.Bool.{false}
use mathlib.Core.List.{List, []}
use Prim.Native.Nat.{ℕ, ◌≤◌}
use native.Mathlib.Omega.{arith}
use Rattle.rules.specs.House.{share, most_name}
use Rattle.rules.specs.Flush.{plan, ahead}
use Rattle.rules.specs.Stores as stores
use Rattle.rules.specs.Stores.{Store, resting, flushing, Flush, resting_at, start_by, start_in, begun}
use Rattle.rules.specs.Sums.{waits_in}
use Rattle.rules.specs.Answers.{number_of, accepted}
use Rattle.rules.specs.Calls.{Outcome, answering, storing_at, others, insert_above, insert_into, insert_flush, insert_of, delete_of}
use Rattle.rules.specs.declared.Answer.{Answer}
use Rattle.rules.specs.declared.Answer.TheVariants.{Done, Running}
use Rattle.rules.proofs.Lists.{clash}
use Rattle.rules.proofs.Limits.{inserted_cases, deleted_cases}
use Rattle.rules.proofs.Accepted.{insert_cases, delete_cases}
use Rattle.rules.proofs.Plays.{moves_left}
use Rattle.rules.proofs.Steps.{todo_now}
use Rattle.to_rest.proofs.Resting.{moves_due, waits_due}

-- a flush that begins: all of its plan is to be done
pub record Begins (w : Store) : Type 0 where
  pub flush : Flush
  pub runs : w.stage ≡ flushing flush
  pub moves : moves_due w ≡ moves_left (plan share (start_in w flush))
  pub waits : waits_due w ≡ waits_in (plan share (start_in w flush))

begins : (s : Store) (r : stores.Request) (b : ℕ) → Begins (begun share s r b)
unfolding ahead
begins s r b =
    let acts = plan share (start_by s.regions s.objects r b) in
    record { flush = _; runs = refl; moves = ap moves_left (todo_now acts); waits = ap waits_in (todo_now acts) }

-- what a call's outcome says of its store: an answer 20 begins a flush, 0 leaves it at rest, and with any but 20 a store that was at rest is at rest
pub record Told (s : Store) (o : Outcome) : Type 0 where
  pub begun : o.answer ≡ Running → Begins o.store
  pub done : number_of o.answer ≡ 0 → o.store.stage ≡ resting
  pub quiet : s.stage ≡ resting → (o.answer ≡ Running → ⊥) → o.store.stage ≡ resting

not_refused : (s : Store) (a : Answer) → accepted a ≡ false → Told s (answering s a)
not_refused s a e = record { begun = λ k. absurd (clash refl (rw k at e)); done = λ k. absurd (clash refl (rw k at e)); quiet = λ rests k. rests }

done_told : (s w : Store) (at : ℕ) (page : List ℕ) → w.stage ≡ resting → Told s (storing_at w Done at page)
done_told s w at page rests = record { begun = λ k. absurd (omega (arith, ap number_of k)); done = λ k. rests; quiet = λ before k. rests }

flush_told : (s v : Store) (r : stores.Request) (b at : ℕ) (page : List ℕ) → Told s (storing_at (begun share v r b) Running at page)
flush_told s v r b at page = record { begun = λ k. begins v r b; done = λ k. absurd (omega (arith, k)); quiet = λ rests k. absurd (k refl) }

pub insert_told : (s : Store) (lent n : ℕ) (page : List ℕ) → n ≤ most_name → Told s (insert_of s lent n page)
unfolding insert_above insert_into insert_flush
insert_told s lent n page small = insert_cases (Told s) s (not_refused s) lent n page small (λ p.
    inserted_cases (Told s) share (resting_at s.area s.regions s.objects) n page
    (λ top. done_told s _ _ page refl) (λ j r. done_told s _ _ page refl) (flush_told s (resting_at s.area s.regions s.objects) _ _ _ page))

pub delete_told : (s : Store) (n : ℕ) → Told s (delete_of s n)
delete_told s n = delete_cases (Told s) s (not_refused s) n (λ p.
    deleted_cases (Told s) share (resting_at s.area s.regions s.objects) p.found.object.name p.found.object.len
    (λ j r. done_told s _ 0 [] refl) (flush_told s (resting_at s.area s.regions (others p.found.object.name s.objects)) _ _ 0 []))

-- so what a call handed back is at rest where the answer is 0
pub rests_by : {s w : Store} {a : Answer} {o : Outcome} → Told s o → a ≡ o.answer → w ≡ o.store → number_of a ≡ 0 → w.stage ≡ resting
rests_by t e f k = ap (λ (x : Store). x.stage) f ∙ t.done (sym (ap number_of e) ∙ k)
