-- The answer line to a line that asks for something is that of the request as it was served.
use mathlib.Core.Path.{◌≡◌, refl, ◌∙◌}
use mathlib.Core.List.{List}
use Prim.Native.Nat.{ℕ}
use Rattle.rules.specs.Stores.{Store}
use Rattle.lines.specs.Requests.{request_of}
use Rattle.lines.specs.declared.Request.{Request}
use Rattle.lines.specs.declared.Request.TheVariants.{Insert, Delete}
use Rattle.std.specs.Prelude.{Some}
use Rattle.to_rest.specs.Runs.{Ran, ran_of}
use Rattle.session.specs.Texts.{ran_text, reply_text, reply_to}

pub asked_text : (r : Request) (x : Ran) → ran_text x.answer x.moves x.waits x.store ≡ reply_text (Some r) x
asked_text (Insert n m b) x = refl
asked_text (Delete n) x = refl

pub reply_text_lem : (s : Store) (area line : List ℕ) (r : Request) (x : Ran) → Some r ≡ request_of line → x ≡ ran_of s area (Some r)
    → ran_text x.answer x.moves x.waits x.store ≡ reply_to s area line
reply_text_lem s area line r x e f = asked_text r x ∙ rw (← e, f)
