-- `sizes::amount` meets its contract: beside a refusal an answer says 0.
use mathlib.Core.Path.{◌≡◌, refl, ◌∙◌}
use Rattle.std.specs.Prelude.{Ok, Err}
use Rattle.std.specs.Result.{result_unwrap_or}
use Rattle.asking.specs.Asked.{Told, told_says}
use Rattle.sizes.proofs.amount.Goals as goal

said : (t : Told) → result_unwrap_or t 0 ≡ (told_says t).1
said (Ok n) = refl
said (Err a) = refl

pub returns : goal.returns
returns c = c.from.ensures ∙ c.unwrap_or.ensures ∙ said c.args.told
