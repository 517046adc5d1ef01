-- The sums of 01 come out as said: antt computes the whole table.
use mathlib.Core.Path.{◌≡◌, refl}
use mathlib.Core.Bool.{true}
use Rattle.rules.specs.House.{quota_of}
use Rattle.rules.specs.Classes.{class_from, class_of, volume, volume_of, filter, insert_by_place, by_place}
use Rattle.rules.specs.Regions.{table, span, every, top_from}
use Rattle.rules.specs.Placing.{room_from}
use Rattle.rules.specs.Boundary.{clean, boundary_of}
use Rattle.rules.specs.Flush.{longest_in, rebound, overflow_start, payloads, buffered, stacked, packed, settled, moves, one_run, by_volume, by_span, plan}
use Rattle.rules.specs.Flush.{moved, played, ahead}
use Rattle.rules.specs.Sound.{each, names_differ, limits_hold, apart_from, in_some_buffer, balanced, rest_rules, stage_holds, sound}
use Rattle.rules.specs.Answers.{first}
use Rattle.rules.specs.Calls.{named, others, insert_above, insert_into, insert_flush, inserted, insert_of, deleted, delete_of, step_of, confirm_of}
use Rattle.rules.specs.Calls.{ask_answer, footprint_of, volume_held, is_due}
use Rattle.rules.specs.Sums.{waits_in, moves_in, numbers_of, onward, eight_two, third_line, sixteen_four, sixteen_record, small_record, sums, same, all_as_said}

pub sums_as_said : all_as_said sums ≡ true
unfolding quota_of class_from class_of volume volume_of filter insert_by_place by_place table span every top_from room_from clean boundary_of longest_in rebound
    overflow_start payloads buffered stacked packed settled moves one_run by_volume by_span plan moved played ahead each names_differ limits_hold apart_from
    in_some_buffer balanced rest_rules stage_holds sound first named others insert_above insert_into insert_flush inserted insert_of deleted delete_of step_of
    confirm_of ask_answer footprint_of volume_held is_due waits_in moves_in numbers_of onward eight_two third_line sixteen_four sixteen_record small_record same
    all_as_said
sums_as_said = refl
