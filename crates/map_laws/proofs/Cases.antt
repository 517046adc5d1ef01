-- The worked maps and the refused bytes come out as said: antt computes them all.
use mathlib.Core.Path.{◌≡◌, refl}
use mathlib.Core.Bool.{true, ◌&&◌}
use Rattle.rules.specs.Answers.{first}
use Rattle.rules.specs.Sums.{same}
use Rattle.rules.specs.Classes.{insert_by_name, by_name}
use Rattle.mapform.specs.Entries.{body_of, entries_from}
use Rattle.mapform.specs.Reading.{entries_fit, clear_of, apart, map_answer}
use Rattle.mapform.specs.Cases.{worked_map, empty_map, cases, all_numbered}

pub as_said : (worked_map && (empty_map && all_numbered cases)) ≡ true
unfolding worked_map empty_map all_numbered same by_name insert_by_name body_of entries_from entries_fit clear_of apart map_answer first
as_said = refl
