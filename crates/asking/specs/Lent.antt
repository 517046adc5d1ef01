-- Where in memory a read's result starts. A reference points at a block and an offset in it.
use Rattle.std.specs.Prelude.{ℕ, ◌+◌, cond, List, [], ◌∷◌}
use Rattle.rules.specs.House.{share}
use Rattle.rules.specs.Classes.{Obj}
use Rattle.rules.specs.Stores.{Store, list_now}
use Rattle.rules.specs.Answers.{accepted}
use Rattle.rules.specs.Calls.{named, read_answer}

-- where the page of an object in the area starts, or the blank page
abbrev pub page_start : ℕ × ℕ → ℕ × ℕ → List Obj → ℕ × ℕ
page_start area blank [] = blank
page_start area blank (o ∷ os) = (area.0, area.1 + o.at)

-- where the part handed back starts: in the area at the object's place, or, on any refusal, where the blank page does
unfoldable pub read_from : Store → ℕ → ℕ × ℕ → ℕ × ℕ → ℕ → ℕ × ℕ
read_from s lent area blank n = cond (accepted (read_answer s lent n)) (page_start area blank (named n (list_now share s))) blank
