-- The first test that applies, where tests stand behind the store's own: a refusal by those stands, and once they pass, the rest decide.
use Rattle.std.specs.Prelude.{◌⊎◌, Result, Ok, Err}
use Rattle.std.specs.Result.{result_err}
use Rattle.std.specs.Option.{unwrap_or}
use mathlib.Core.Logic.{inl, inr, ⊎_elim}
use mathlib.Core.Path.{◌≡◌, refl, ap, ◌∙◌}
use mathlib.Core.Bool.{Bool, true, false, cond, not, ◌&&◌, ◌||◌}
use mathlib.Core.List.{List, [], ◌∷◌, ◌++◌}
use Prim.Native.Nat.{ℕ}
use lib.Dec.{eqb}
use borrow.Author.Tests.{eqb-true}
use Rattle.rules.specs.House.{share}
use Rattle.rules.specs.Stores.{Store}
use Rattle.rules.specs.Sound.{sound}
use Rattle.rules.specs.Answers.{Test, first, accepted}
use Rattle.rules.specs.Calls.{test, from_refused, store_tests}
use Rattle.rules.specs.declared.Answer.{Answer}
use Rattle.rules.specs.declared.Answer.TheVariants.{Done, Unsound, WrongArea}
use Rattle.rules.proofs.Lists.{clash, is_false}
use Rattle.rules.proofs.Refusals.{Refusals, accepted_done}
use Rattle.state.specs.declared.State.{State}
use Rattle.state.specs.declared.Checked.{Checked}
use Rattle.state.specs.Model.{model_of}
use Rattle.refusals.specs.Tests.{passed, handed}

-- no test, a test that applies, and one that does not
pub none : Done ≡ first []
unfolding first
none = refl

pub hit : (b : Bool) (a : Answer) (ts : List Test) → b ≡ true → a ≡ first (test b a ∷ ts)
unfolding first
hit b a ts e = rw e

pub miss : (b : Bool) (a : Answer) (ts : List Test) → b ≡ false → first ts ≡ first (test b a ∷ ts)
unfolding first
miss b a ts e = rw e

-- an answer is done, or it refuses
passes : (s : State) (a : Answer) → (a ≡ Done) ⊎ (passed s a ≡ Err a)
passes s Done = inl refl
passes s a = inr refl

pub is_done : (s : State) {t : State} {a : Answer} → Ok t ≡ passed s a → a ≡ Done
is_done s {t} {a} e = ⊎_elim (λ d. d) (λ r. cc) (passes s a)

-- the value handed on is the one tested
pub same : (s : State) {t : State} (a : Answer) → Ok t ≡ passed s a → t ≡ s
same s {t} a e = let q : Ok t ≡ Ok s = e ∙ ap (passed s) (is_done s e) in cc

pub is_refusal : (s : State) {a b : Answer} → Err a ≡ passed s b → a ≡ b
is_refusal s {a} {b} e = ⊎_elim (λ d. let q : Err a ≡ Ok s = e ∙ ap (passed s) d in cc) (λ r. cc) (passes s b)

-- the answer, from what it came to
pub turned_back : (s : State) (a : Answer) → unwrap_or (result_err (passed s a)) Done ≡ a
turned_back s Done = refl
turned_back s a = refl

-- the refusal handed on
pub refusal_handed : (r : Result Checked Answer) → result_err r ≡ result_err (handed r)
refusal_handed (Ok c) = refl
refusal_handed (Err a) = refl

-- what tests that each refuse do not let pass is not accepted
pub refused : (s : State) (ts : List Test) → Refusals ts → {a : Answer} → Err a ≡ passed s (first ts) → accepted (first ts) ≡ false
refused s ts r {a} e =
    is_false (accepted (first ts)) (λ k. let q : Err a ≡ Ok s = e ∙ ap (passed s) (accepted_done ts r k) in cc)

-- a refusal stands, whatever tests come behind
pub later_first : (xs ts : List Test) → (first xs ≡ Done → ⊥) → first xs ≡ first (xs ++ ts)
unfolding first
later_first [] ts e = absurd (e refl)
later_first (t ∷ xs) ts e = (elim t.applies as
    (λ b. (cond b t.gives (first xs) ≡ Done → ⊥) → cond b t.gives (first xs) ≡ cond b t.gives (first (xs ++ ts))) [
      | true ↦ λ q. refl
      | false ↦ λ q. later_first xs ts q
    ]) e

pub refusing : (s : State) (xs ts : List Test) {a : Answer} → Err a ≡ passed s (first xs) → Err a ≡ passed s (first (xs ++ ts))
refusing s xs ts {a} e = e ∙ ap (passed s) (later_first xs ts (λ d. let q : Err a ≡ Ok s = e ∙ ap (passed s) d in cc))

-- the store's tests passed
pub record Passed (s : Store) (lent : ℕ) : Type 0 where
  pub is_sound : sound share s ≡ true
  pub own : lent ≡ s.area
  pub later : (ts : List Test) → first ts ≡ first (store_tests s lent ++ ts)

-- what is left of two tests that passed
two_pass : (r d w : Bool) → accepted (first (test (not r && not d) Unsound ∷ test (r || not w) WrongArea ∷ [])) ≡ true
    → (d ≡ true) × (w ≡ true) × ((ts : List Test) → first ts ≡ first (test (not r && not d) Unsound ∷ test (r || not w) WrongArea ∷ ts))
unfolding first
two_pass true d w e = absurd (clash e refl)
two_pass false false w e = absurd (clash e refl)
two_pass false true false e = absurd (clash e refl)
two_pass false true true e = (refl, refl, λ ts. refl)

pub store_passed : (s : Store) (lent : ℕ) → accepted (first (store_tests s lent)) ≡ true → Passed s lent
store_passed s lent e =
    let p = two_pass (from_refused s) (sound share s) (eqb lent s.area) e in
    record { is_sound = p.0; own = eqb-true lent s.area p.1; later = p.2 }

-- what is known where the store's tests let a call pass
pub passing : (s t : State) (lent : ℕ) → Ok t ≡ passed s (first (store_tests (model_of s) lent)) → Passed (model_of s) lent
passing s t lent e = store_passed (model_of s) lent (ap accepted (is_done s e))
