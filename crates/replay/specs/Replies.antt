-- The answer lines of a session.
use Rattle.std.specs.Prelude.{ℕ, List, [], ◌∷◌}
use Rattle.rules.specs.Stores.{Store}
use Rattle.lines.specs.Requests.{request_of}
use Rattle.to_rest.specs.Runs.{ran_of}
use Rattle.session.specs.Texts.{reply_to}

-- the answer line to a line that comes after these lines
abbrev pub reply_after : Store → List ℕ → List (List ℕ) → List ℕ → List ℕ
reply_after s area [] line = reply_to s area line
reply_after s area (first ∷ others) line = let e = ran_of s area (request_of first) in reply_after e.store e.area others line
