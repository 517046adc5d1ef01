-- A function that has an answer, and the word whether it is accepted.
use mathlib.Core.Path.{◌≡◌, sym, ap, ◌∙◌}
use mathlib.Core.Bool.{Bool, true, false, cond}
use Rattle.rules.specs.Answers.{accepted}
use Rattle.rules.specs.declared.Answer.{Answer}

-- it has the answer b as a, and whether that is accepted as r
module _ {a b : Answer} {r : Bool} (answers : a ≡ b) (says : r ≡ accepted a) where
  pub refuses : r ≡ false → accepted b ≡ false
  refuses e = ap accepted (sym answers) ∙ sym says ∙ e

  pub allows : r ≡ true → accepted b ≡ true
  allows e = ap accepted (sym answers) ∙ sym says ∙ e

  -- the refusal is told
  pub told_refusal : {A : Type 0} (f : Answer → A) (x : A) → r ≡ false → f a ≡ cond (accepted b) x (f b)
  told_refusal f x e = ap f answers ∙ ap (λ t. cond t x (f b)) (sym (refuses e))
