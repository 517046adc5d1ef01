-- DEMAND 1, AND THE CODE'S CALLS AS A HISTORY, each with its statement. `outcome_of` is made of the functions that the contracts of the store's calls
-- cite; demands 2 and 3 are in the rules' Promises.antt, and speak of histories: by `opening_stands`, the contract of `bridge::serve` and
-- `call_stands`, of the code.
use mathlib.Core.Path.{◌≡◌, refl, sym, ap, ◌∙◌}
use mathlib.Core.Bool.{Bool, true, false, cond, not, ◌&&◌}
use mathlib.Core.List.{List, [], ◌++◌}
use Prim.Native.Nat.{ℕ}
use borrow.Author.Tests.{eq-eqb, ne_eqb}
use lib.ListN.{length, take}
use Rattle.rules.specs.House.{share, area_fits}
use Rattle.rules.specs.Classes.{volume}
use Rattle.rules.specs.Stores.{Store}
use Rattle.rules.specs.Sound.{sound}
use Rattle.rules.specs.Answers.{Test, first, accepted}
use Rattle.rules.specs.Calls.{written, answering, unless_refused, from_refused, store_tests, name_tests, open_store, inserted, insert_of, delete_of, named}
use Rattle.rules.specs.Calls.{step_in, step_of, confirm_of, find_answer, read_answer, ask_answer}
use Rattle.rules.specs.History.{Call, insert, delete, step, confirm, lent_by, outcome_of, History, opening, serve, Named, Reached, opened, called}
use Rattle.rules.specs.declared.Answer.{Answer}
use Rattle.rules.specs.declared.Answer.TheVariants.{Unsound, WrongArea}
use Rattle.rules.proofs.Lists.{clash}
use Rattle.rules.proofs.Writes.{EndsIn}
use Rattle.rules.proofs.Demands.{lent_ends}
use Rattle.rules.proofs.History.{refused_same, inserted_accepted, deleted_accepted, stepped_accepted}
use Rattle.map_laws.specs.Kept.{size_of, front_of}
use Rattle.store.specs.Served.{model, map_into}
use Rattle.store.specs.declared.Served.{Served}
use Rattle.store.specs.declared.Store as values
use Rattle.bridge.specs.Calling.{StandsAt, ServedAs, Runs, opens, calls}
use Rattle.bridge.specs.Tests.{tests_of}

-- An opening for an area of its length stands for the history's opening,
pub opening_stands : (area : List ℕ) (r : Served) → model r.store ≡ open_store (length area) → StandsAt (opening area) r.store area
opening_stands area r e = record { at_store = sym e; at_area = refl }

-- and what a call served hands back and leaves for the history after the call: so calls of the code, one after another, are a history.
pub call_stands : (h : History) (c : Call) (r : Served) (after : List ℕ) → ServedAs h c r after → StandsAt (serve h c) r.store after
call_stands h c r after k = record { at_store = sym k.store; at_area = sym k.area }

-- So a run of the code stands for a history that is reached: what demands 2 and 3 say of every one they say of it.
pub run_stands : {h : History} {s : values.Store} {area : List ℕ} → Runs h s area → StandsAt h s area × Reached h
run_stands (opens area r e) = (opening_stands area r e, opened area)
run_stands (calls {h = h} c r after small k runs) = (call_stands h c r after k, called c small (run_stands runs).1)

-- what demand 1 asks of a call: it writes within the bytes lent; it is refused exactly as the first of its tests that applies says; refused, it gives
-- back the same store and writes nothing
pub record Demand1 (s : Store) (area : List ℕ) (c : Call) : Type 0 where
  pub writes_within : EndsIn (length (take (lent_by c) area)) (outcome_of s area c).write
  pub refused_as_tested : accepted (first (tests_of s area c)) ≡ false → outcome_of s area c ≡ answering s (first (tests_of s area c))
  pub accepted_else : accepted (first (tests_of s area c)) ≡ true → accepted (outcome_of s area c).answer ≡ true
  pub refused_changes_nothing : accepted (outcome_of s area c).answer ≡ false → outcome_of s area c ≡ answering s (outcome_of s area c).answer

-- what the tests refuse is refused
tested : (s : Store) (area : List ℕ) (c : Call) → accepted (first (tests_of s area c)) ≡ false
    → outcome_of s area c ≡ answering s (first (tests_of s area c))
unfolding insert_of delete_of step_of confirm_of
tested s area (insert lent n page) e = rw e
tested s area (delete n) e = rw e
tested s area (step lent) e = rw e
tested s area (confirm room) e = rw e

-- and what they pass is accepted
passed : (s : Store) (area : List ℕ) (c : Call) → accepted (first (tests_of s area c)) ≡ true → accepted (outcome_of s area c).answer ≡ true
unfolding insert_of delete_of step_of confirm_of
passed s area (insert lent n page) e = rw e (inserted_accepted share s n page)
passed s area (delete n) e = rw e (deleted_accepted share s n (volume (named n s.objects)))
passed s area (step lent) e = rw e (stepped_accepted share s (take lent area) s.stage)
passed s area (confirm room) e = rw e

-- DEMAND 1. Of every store, every area and every call.
pub demand_1_calls : (s : Store) (area : List ℕ) (c : Call) → Named c → Demand1 s area c
demand_1_calls s area c small =
    record {
      writes_within = lent_ends s area c small;
      refused_as_tested = tested s area c;
      accepted_else = passed s area c;
      refused_changes_nothing = refused_same s area c;
    }

-- The calls that only ask answer as their tests say too.
pub demand_1_asks : (s : Store) (lent n : ℕ)
    → (find_answer s n ≡ first (store_tests s s.area ++ name_tests s n)) × (read_answer s lent n ≡ first (store_tests s lent ++ name_tests s n))
    × (ask_answer s ≡ first (store_tests s s.area))
unfolding find_answer read_answer ask_answer
demand_1_asks s lent n = (refl, refl, refl)

-- where the store's own area is not lent the first two tests decide
abbrev shut : Store → Answer
shut s = cond (not (from_refused s) && not (sound share s)) Unsound WrongArea

shut_tests : (s : Store) (lent : ℕ) (more : List Test) → (lent ≡ s.area → from_refused s ≡ true) → first (store_tests s lent ++ more) ≡ shut s
unfolding first
shut_tests s lent more other =
    (elim (from_refused s) as (λ b. from_refused s ≡ b → first (store_tests s lent ++ more) ≡ cond (not b && not (sound share s)) Unsound WrongArea) [
      | true ↦ λ e. rw e
      | false ↦ λ e. rw (e, ne_eqb lent s.area (λ z. clash (other z) e))
    ]) refl

shut_refused : (s : Store) → accepted (shut s) ≡ false
shut_refused s = by (not (from_refused s) && not (sound share s))
  where
    by : (b : Bool) → accepted (cond b Unsound WrongArea) ≡ false
    by true = refl
    by false = refl

shut_insert : (s : Store) (lent n : ℕ) (page : List ℕ) → (lent ≡ s.area → from_refused s ≡ true) → insert_of s lent n page ≡ answering s (shut s)
unfolding insert_of
shut_insert s lent n page other = ap (λ a. unless_refused s a (inserted share s n page)) (shut_tests s lent _ other) ∙ rw (shut_refused s)

shut_step : (s : Store) (part : List ℕ) → (length part ≡ s.area → from_refused s ≡ true) → step_of s part ≡ answering s (shut s)
unfolding step_of
shut_step s part other = ap (λ a. unless_refused s a (step_in share s part s.stage)) (shut_tests s (length part) _ other) ∙ rw (shut_refused s)

-- nothing lent is the area of no store but that of a refused opening
none_lent : (s : Store) → 0 ≡ s.area → from_refused s ≡ true
none_lent s e = eq-eqb s.area 0 (sym e)

-- AN AREA OF ANOTHER LENGTH than the store's, longer ones too, is refused whatever its bytes: an insert and a step hand back the same store and write nothing,
pub other_area_insert : (s : Store) (lent n : ℕ) (page : List ℕ) → (lent ≡ s.area → ⊥)
    → insert_of s lent n page ≡ answering s (cond (not (from_refused s) && not (sound share s)) Unsound WrongArea)
other_area_insert s lent n page other = shut_insert s lent n page (λ e. absurd (other e))

pub other_area_step : (s : Store) (part : List ℕ) → (length part ≡ s.area → ⊥)
    → step_of s part ≡ answering s (cond (not (from_refused s) && not (sound share s)) Unsound WrongArea)
other_area_step s part other = shut_step s part (λ e. absurd (other e))

-- which is what the history's call comes to with nothing lent: so a host that lends another length still has a history.
pub other_area_insert_none : (s : Store) (lent n : ℕ) (page : List ℕ) → (lent ≡ s.area → ⊥) → (area : List ℕ)
    → insert_of s lent n page ≡ outcome_of s area (insert 0 n page)
other_area_insert_none s lent n page other area = other_area_insert s lent n page other ∙ sym (shut_insert s 0 n page (none_lent s))

pub other_area_step_none : (s : Store) (part : List ℕ) → (length part ≡ s.area → ⊥) → (area : List ℕ)
    → step_of s part ≡ outcome_of s area (step 0)
other_area_step_none s part other area = other_area_step s part other ∙ sym (shut_step s [] (none_lent s))

-- A STORE OF A REFUSED OPENING answers 1 to every call, and keeps as it is;
pub refused_calls : (s : Store) (area : List ℕ) (c : Call) → from_refused s ≡ true → outcome_of s area c ≡ answering s WrongArea
unfolding insert_of delete_of step_of confirm_of first
refused_calls s area (insert lent n page) e = rw e
refused_calls s area (delete n) e = rw e
refused_calls s area (step lent) e = rw e
refused_calls s area (confirm room) e = rw e

-- it answers 1 to what only asks;
pub refused_asks : (s : Store) (lent n : ℕ) → from_refused s ≡ true
    → (find_answer s n ≡ WrongArea) × (read_answer s lent n ≡ WrongArea) × (ask_answer s ≡ WrongArea)
unfolding find_answer read_answer ask_answer first
refused_asks s lent n e = (rw e, rw e, rw e)

-- and every refused opening gives such a store.
pub refused_opens : (a : ℕ) → area_fits a ≡ false → from_refused (open_store a) ≡ true
refused_opens a e = rw e

-- A call refused leaves each byte that was lent as it was.
pub refused_bytes : (s : Store) (a : Answer) (bytes : List ℕ) → written bytes (answering s a).write ≡ bytes
refused_bytes s a bytes = refl

-- THE BUFFER LENT TO A CONFIRMATION that is accepted has at its front the bytes of which `demand_2_map_bytes` and `demand_3_map` speak.
pub front_handed : (s : Store) (buf : List ℕ) → accepted (confirm_of s (length buf)).answer ≡ true → take (size_of s) (map_into s buf) ≡ front_of s buf
unfolding map_into
front_handed s buf e = rw e
