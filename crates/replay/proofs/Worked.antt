-- 01's session of five lines: what the rules compute, against what 01 says.
use mathlib.Core.Path.{◌≡◌, refl}
use mathlib.Core.List.{List, [], ◌∷◌}
use Prim.Native.Nat.{ℕ}
use Rattle.rules.specs.House.{quota_of}
use Rattle.rules.specs.Classes.{class_from, class_of, volume, volume_of, filter, insert_by_place, by_place}
use Rattle.rules.specs.Regions.{table, span, every, top_from}
use Rattle.rules.specs.Placing.{room_from}
use Rattle.rules.specs.Boundary.{clean, boundary_of}
use Rattle.rules.specs.Flush.{longest_in, rebound, overflow_start, payloads, buffered, stacked, packed, settled, moves, one_run, by_volume}
use Rattle.rules.specs.Flush.{by_span, plan, moved, played, ahead}
use Rattle.rules.specs.Sound.{each, names_differ, limits_hold, apart_from, in_some_buffer, balanced, rest_rules, stage_holds, sound}
use Rattle.rules.specs.Answers.{first}
use Rattle.rules.specs.Calls.{named, others, insert_above, insert_into, insert_flush, inserted, insert_of, deleted, delete_of, step_of, confirm_of, ask_answer}
use Rattle.rules.specs.Calls.{footprint_of, volume_held, is_due}
use Rattle.lines.specs.Parts.{first_part, parted}
use Rattle.lines.specs.Feeding.{shed}
use Rattle.texts.specs.Numbers.{spelled, last_digits, width_in}
use Rattle.to_rest.specs.Runs.{turn_of, to_rest}
use Rattle.session.specs.Texts.{replies_of, replay_of}

five : List ℕ
five =
    73 ∷ 32 ∷ 49 ∷ 32 ∷ 56 ∷ 32 ∷ 54 ∷ 53 ∷ 10 ∷
    73 ∷ 32 ∷ 50 ∷ 32 ∷ 50 ∷ 32 ∷ 54 ∷ 54 ∷ 10 ∷
    73 ∷ 32 ∷ 51 ∷ 32 ∷ 49 ∷ 32 ∷ 54 ∷ 55 ∷ 10 ∷
    68 ∷ 32 ∷ 49 ∷ 10 ∷
    68 ∷ 32 ∷ 57 ∷ 10 ∷
    []

said : List ℕ
said =
    97 ∷ 110 ∷ 115 ∷ 119 ∷ 101 ∷ 114 ∷ 32 ∷ 109 ∷ 111 ∷ 118 ∷ 101 ∷ 115 ∷ 32 ∷ 119 ∷ 97 ∷ 105 ∷ 116 ∷ 115 ∷ 32 ∷
    102 ∷ 111 ∷ 111 ∷ 116 ∷ 112 ∷ 114 ∷ 105 ∷ 110 ∷ 116 ∷ 32 ∷ 118 ∷ 111 ∷ 108 ∷ 117 ∷ 109 ∷ 101 ∷ 10 ∷
    48 ∷ 32 ∷ 48 ∷ 32 ∷ 48 ∷ 32 ∷ 49 ∷ 48 ∷ 32 ∷ 56 ∷ 10 ∷
    48 ∷ 32 ∷ 48 ∷ 32 ∷ 48 ∷ 32 ∷ 49 ∷ 48 ∷ 32 ∷ 49 ∷ 48 ∷ 10 ∷
    50 ∷ 48 ∷ 32 ∷ 53 ∷ 32 ∷ 52 ∷ 32 ∷ 49 ∷ 51 ∷ 32 ∷ 49 ∷ 49 ∷ 10 ∷
    50 ∷ 48 ∷ 32 ∷ 48 ∷ 32 ∷ 49 ∷ 32 ∷ 51 ∷ 32 ∷ 51 ∷ 10 ∷
    54 ∷ 32 ∷ 48 ∷ 32 ∷ 48 ∷ 32 ∷ 51 ∷ 32 ∷ 51 ∷ 10 ∷
    []

five_lines : replay_of five ≡ said
unfolding five said quota_of class_from class_of volume volume_of filter insert_by_place by_place table span every top_from room_from clean boundary_of
    longest_in rebound overflow_start payloads buffered stacked packed settled moves one_run by_volume by_span plan moved played ahead each names_differ
    limits_hold apart_from in_some_buffer balanced rest_rules stage_holds sound first named others insert_above insert_into insert_flush inserted insert_of
    deleted delete_of step_of confirm_of ask_answer footprint_of volume_held is_due first_part parted shed spelled last_digits width_in turn_of to_rest
    replies_of
five_lines = refl
