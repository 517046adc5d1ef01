-- Two histories, computed, and a cut in the step after each: 01's example up to its flush and a confirmation in mid-run; and a flush that begins with
-- a page in the last map which is deleted and longer than D. Each page of the map kept is found in what the cut leaves.
use mathlib.Core.Path.{◌≡◌, refl}
use Prim.Native.Nat.{ℕ}
use mathlib.Core.Bool.{true}
use mathlib.Core.List.{List, [], ◌∷◌, ◌++◌}
use native.Mathlib.Omega.{arith}
use lib.ListN.{length, take, drop, replicate}
use Rattle.rules.specs.House.{quota_of, least_area}
use Rattle.rules.specs.Classes.{class_from, class_of, volume, volume_of, filter, insert_by_place, by_place}
use Rattle.rules.specs.Regions.{table, span, every, top_from}
use Rattle.rules.specs.Placing.{room_from}
use Rattle.rules.specs.Boundary.{clean, boundary_of}
use Rattle.rules.specs.Flush.{longest_in, rebound, overflow_start, payloads, buffered, stacked, packed, settled, moves, one_run, by_volume, by_span, plan}
use Rattle.rules.specs.Flush.{moved, played, ahead}
use Rattle.rules.specs.Stores.{list_now}
use Rattle.rules.specs.Sound.{each, names_differ, limits_hold, apart_from, in_some_buffer, balanced, rest_rules, stage_holds, sound}
use Rattle.rules.specs.Answers.{first, number_of}
use Rattle.rules.specs.Calls.{written, Outcome, named, others, insert_above, insert_into, insert_flush, inserted, insert_of, deleted, delete_of, step_of}
use Rattle.rules.specs.Calls.{confirm_of}
use Rattle.rules.specs.History.{Call, insert, delete, step, confirm, outcome_of, Page, History, opening, without, bytes_under, with_bytes, after, Reached}
use Rattle.rules.specs.Sums.{same}
use Rattle.rules.proofs.Promises.{reached_law}

-- the example's three inserts with a map after the second, four moves of the flush with a confirmation after each: the last of these comes in mid-run
unfoldable pub example : List Call
example =
    insert least_area 1 (replicate 8 65)
    ∷ insert least_area 2 (replicate 2 66)
    ∷ confirm 19
    ∷ insert least_area 3 (replicate 1 67)
    ∷ step least_area
    ∷ confirm 25
    ∷ step least_area
    ∷ confirm 25
    ∷ step least_area
    ∷ confirm 25
    ∷ step least_area
    ∷ confirm 25
    ∷ []

-- lengths 16 and 17, run to rest, and the 17 deleted: D is 16, and the 17 is still in the last map
unfoldable pub longer : List Call
longer =
    insert least_area 1 (replicate 16 65)
    ∷ insert least_area 2 (replicate 17 66)
    ∷ step least_area
    ∷ confirm 19
    ∷ step least_area
    ∷ confirm 19
    ∷ step least_area
    ∷ confirm 19
    ∷ delete 2
    ∷ []

-- the history after such calls
unfoldable pub trial : List Call → History
trial calls = after (opening (replicate least_area 0)) calls

-- both are reached, so the demands speak of them
pub trial_reached : Reached (trial example) × Reached (trial longer)
unfolding trial example longer
trial_reached = (
  reached_law (replicate least_area 0) example (omega arith, (omega arith, (tt, (omega arith, (tt, (tt, (tt, (tt, (tt, (tt, (tt, (tt, tt)))))))))))),
  reached_law (replicate least_area 0) longer (omega arith, (omega arith, (tt, (tt, (tt, (tt, (tt, (tt, (omega arith, tt))))))))),
)

-- one move more
unfoldable pub next : History → Outcome
next h = outcome_of h.store h.area (step least_area)

-- what a cut in it leaves, with 255 for each byte inside the place
unfoldable pub torn : History → List ℕ
torn h = written h.area (record { at = (next h).write.at; bytes = replicate (length (next h).write.bytes) 255 })

-- name, place and bytes of each page, and what lies at its place in an area
unfoldable pub seen : List ℕ → List Page → List ℕ
seen cut [] = []
seen cut (p ∷ ps) = (p.object.name ∷ p.object.at ∷ p.bytes) ++ (take p.object.len (drop p.object.at cut) ++ seen cut ps)

-- answer and place of that move, then the pages of the map kept, in the torn area
unfoldable pub found : History → List ℕ
found h = number_of (next h).answer ∷ (next h).write.at ∷ seen (torn h) h.kept

-- the fifth move of the example, and the first of the other flush
pub trial_holds :
    (same (found (trial example)) (20 ∷ 0 ∷ 1 ∷ 3 ∷ (replicate 16 65 ++ (2 ∷ 1 ∷ replicate 4 66 ++ (3 ∷ 25 ∷ 67 ∷ 67 ∷ [])))) ≡ true)
    × (same (found (trial longer)) (20 ∷ 49 ∷ 1 ∷ 0 ∷ (replicate 32 65 ++ (2 ∷ 16 ∷ replicate 34 66))) ≡ true)
unfolding quota_of class_from class_of volume volume_of filter insert_by_place by_place table span every top_from room_from clean boundary_of longest_in rebound
    overflow_start payloads buffered stacked packed settled moves one_run by_volume by_span plan moved played ahead list_now each names_differ limits_hold
    apart_from in_some_buffer balanced rest_rules stage_holds sound first named others insert_above insert_into insert_flush inserted insert_of deleted
    delete_of step_of confirm_of without bytes_under with_bytes after example longer trial next torn seen found same
trial_holds = (refl, refl)
