-- Lists of tests that each give a refusal: what they accept is done.
use mathlib.Core.Path.{◌≡◌, refl}
use mathlib.Core.Bool.{true, false, cond}
use mathlib.Core.List.{List, [], ◌∷◌}
use Rattle.rules.specs.Answers.{Test, first, accepted}
use Rattle.rules.specs.declared.Answer.TheVariants.{Done}
use Rattle.rules.proofs.Lists.{clash}

-- every test of a list gives a refusal
abbrev pub Refusals : List Test → Type 0
Refusals [] = Unit {0}
Refusals (t ∷ ts) = (accepted t.gives ≡ false) × Refusals ts

pub accepted_done : (ts : List Test) → Refusals ts → accepted (first ts) ≡ true → first ts ≡ Done
unfolding first
accepted_done [] r e = refl
accepted_done (t ∷ ts) r e = (elim t.applies as (λ b. accepted (cond b t.gives (first ts)) ≡ true → cond b t.gives (first ts) ≡ Done) [
  | true ↦ λ q. absurd (clash q r.0)
  | false ↦ λ q. accepted_done ts r.1 q
]) e
