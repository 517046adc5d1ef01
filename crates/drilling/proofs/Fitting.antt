-- No answer line is longer than 8,255 bytes: three numbers, or a number and 4,096 bytes in hexadecimal. So a program that keeps so much room loses none.
use mathlib.Core.List.{[], ◌∷◌, ◌++◌}
use Prim.Native.Nat.{ℕ, ◌+◌, ◌*◌, ◌≤◌, min}
use native.Mathlib.Nat.{min-le_right}
use native.Mathlib.Omega.{arith}
use lib.ListN.{length, replicate, length-append, length-replicate}
use Rattle.std.specs.Prelude.{Option, Some, None}
use Rattle.lines.specs.Parts.{blank, line_feed}
use Rattle.lines.specs.declared.Drill.{Drill}
use Rattle.lines.specs.declared.Drill.TheVariants.{Open, Lend, Insert, Delete, Step, Confirm, Find, Read, Sum}
use Rattle.texts.specs.Fields.{field}
use Rattle.texts.proofs.Fronts.{field_short}
use Rattle.replies.specs.Lines.{Said, one, three, shown, bad, hex_word, line_of}
use Rattle.replies.proofs.Replying.{word_short}
use Rattle.lines.specs.Requests.{most_room}
use Rattle.desks.specs.Desks.{Desk, unwritten, said_to}
use Rattle.desks.specs.Served.{answer_to}
use Rattle.drilling.proofs.Serving.{into_long}

-- how many bytes are shown
abbrev shows : Said → ℕ
shows (one a) = 0
shows (three a b c) = 0
shows (shown a bytes) = length bytes
shows bad = 0

shows_few : (d : Desk) (asked : Option Drill) → shows (said_to d asked) ≤ most_room
shows_few d (Some (Open n)) = omega arith
shows_few d (Some (Lend n)) = omega arith
shows_few d (Some (Insert name len byte)) = omega arith
shows_few d (Some (Delete name)) = omega arith
shows_few d (Some Step) = omega arith
shows_few d (Some (Confirm n)) =
    omega (arith, into_long d.store (replicate (min n most_room) unwritten), length-replicate {A = ℕ} (min n most_room) unwritten, min-le_right n most_room)
shows_few d (Some (Find name)) = omega arith
shows_few d (Some (Read name)) = omega arith
shows_few d (Some Sum) = omega arith
shows_few d None = omega arith

line_short : (x : Said) → length (line_of x) ≤ 63 + 2 * shows x
line_short (one a) = omega (arith, field_short a line_feed)
line_short (three a b c) =
    omega (
      arith,
      length-append (field a blank) (field b blank ++ field c line_feed),
      length-append (field b blank) (field c line_feed),
      field_short a blank,
      field_short b blank,
      field_short c line_feed,
    )
line_short (shown a bytes) =
    omega (
      arith,
      length-append (field a blank) (hex_word bytes ++ (line_feed ∷ [])),
      length-append (hex_word bytes) (line_feed ∷ []),
      field_short a blank,
      word_short bytes,
    )
line_short bad = omega arith

pub answer_fits : (d : Desk) (asked : Option Drill) → length (answer_to d asked) ≤ 63 + 2 * most_room
answer_fits d asked = omega (arith, line_short (said_to d asked), shows_few d asked)
