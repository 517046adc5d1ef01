-- A call that has the answer of its tests, and the word whether it is accepted.
use mathlib.Core.Path.{◌≡◌, sym, ap, ◌∙◌}
use mathlib.Core.Bool.{Bool, true, false, cond}
use mathlib.Core.List.{List}
use Rattle.rules.specs.Stores.{Store}
use Rattle.rules.specs.Answers.{Test, first, accepted}
use Rattle.rules.specs.Calls.{Outcome, answering}
use Rattle.rules.specs.declared.Answer.{Answer}
use Rattle.rules.specs.declared.Answer.TheVariants.{Done}
use Rattle.rules.proofs.Refusals.{accepted_done}
use Rattle.store.proofs.Outcomes.{Tested}

module _ {s : Store} {ts : List Test} {done o : Outcome} (call : Tested s ts done o)
    {a : Answer} {r : Bool} (answers : a ≡ first ts) (says : r ≡ accepted a) where
  pub refused : r ≡ false → answering s a ≡ o
  refused e =
      ap (answering s) answers
      ∙ sym (call.comes_to ∙ ap (λ b. cond b done (answering s (first ts))) (ap accepted (sym answers) ∙ sym says ∙ e))

  pub passed : r ≡ true → first ts ≡ Done
  passed e = accepted_done ts call.refuse (ap accepted (sym answers) ∙ sym says ∙ e)
