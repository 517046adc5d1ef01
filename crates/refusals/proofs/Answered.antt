-- A function that has the answer of the store's tests, and the word whether it is accepted.
use mathlib.Core.Path.{◌≡◌, sym, ap, ◌∙◌}
use mathlib.Core.Bool.{Bool, true, false}
use mathlib.Core.List.{List, ◌++◌}
use Prim.Native.Nat.{ℕ}
use Rattle.rules.specs.Stores.{Store}
use Rattle.rules.specs.Answers.{Test, first, accepted}
use Rattle.rules.specs.Calls.{store_tests}
use Rattle.rules.specs.declared.Answer.{Answer}
use Rattle.rules.proofs.Lists.{clash}
use Rattle.refusals.proofs.Firsts.{Passed, store_passed, later_first}

module _ (s : Store) (lent : ℕ) {a : Answer} {r : Bool} (answers : a ≡ first (store_tests s lent)) (says : r ≡ accepted a) where
  pub refusing : r ≡ false → (ts : List Test) → a ≡ first (store_tests s lent ++ ts)
  refusing e ts = answers ∙ later_first (store_tests s lent) ts (λ d. clash (ap accepted d) (ap accepted (sym answers) ∙ sym says ∙ e))

  pub passing : r ≡ true → Passed s lent
  passing e = store_passed s lent (ap accepted (sym answers) ∙ sym says ∙ e)
