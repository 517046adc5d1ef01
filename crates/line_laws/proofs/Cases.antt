-- The worked lines ask for what is said: antt computes them all.
use mathlib.Core.Path.{◌≡◌, refl}
use mathlib.Core.List.{[], ◌∷◌, map}
use Rattle.lines.specs.Parts.{first_part, parted}
use Rattle.texts.specs.Numbers.{spelled}
use Rattle.lines.specs.Requests.{request_of, drill_of}
use Rattle.lines.specs.Feeding.{shed, lines_of, brought_by, lines_from}
use Rattle.lines.specs.Cases.{Replayed, Drilled, replayed, drilled}

pub replay_as_said : map (λ (c : Replayed). request_of c.line) replayed ≡ map (λ (c : Replayed). c.asks) replayed
unfolding first_part parted spelled
replay_as_said = refl

pub drill_as_said : map (λ (c : Drilled). drill_of c.line) drilled ≡ map (λ (c : Drilled). c.asks) drilled
unfolding first_part parted spelled
drill_as_said = refl

-- an empty line between two lines, the last one without a line feed; in three pieces, by way of a buffer of two bytes; nothing; one line feed
pub lines_as_said : (lines_of (65 ∷ 66 ∷ 67 ∷ 10 ∷ 10 ∷ 68 ∷ []) ≡ (65 ∷ 66 ∷ 67 ∷ []) ∷ [] ∷ (68 ∷ []) ∷ [])
    × (lines_from ((65 ∷ []) ∷ (66 ∷ 67 ∷ 10 ∷ 10 ∷ []) ∷ (68 ∷ []) ∷ []) (0 ∷ 0 ∷ []) 0 ≡ (65 ∷ 66 ∷ []) ∷ [] ∷
    (68 ∷ []) ∷ [])
    × (lines_of [] ≡ []) × (lines_of (10 ∷ []) ≡ [] ∷ [])
unfolding first_part parted shed brought_by lines_from
lines_as_said = (refl, refl, refl, refl)
