-- Worked lines as two tables: what they ask, as computed, beside what is said. proofs/Cases.antt covers them by one statement.
use Rattle.std.specs.Prelude.{ℕ, List, [], ◌∷◌, Option, Some, None}
use Rattle.lines.specs.declared.Request.{Request}
use Rattle.lines.specs.declared.Request.TheVariants.{Insert as ToInsert, Delete as ToDelete}
use Rattle.lines.specs.declared.Drill.{Drill}
use Rattle.lines.specs.declared.Drill.TheVariants.{Open, Lend, Insert, Delete, Step, Confirm, Find, Read, Sum}

-- a line of `replay`, and what it asks
pub record Replayed : Type 0 where
  pub line : List ℕ
  pub asks : Option Request

-- a line of `drill`, and what it asks
pub record Drilled : Type 0 where
  pub line : List ℕ
  pub asks : Option Drill

-- lines of `replay`
abbrev pub replayed : List Replayed
replayed =
    -- "I 1 8 65"
    (record { line = 73 ∷ 32 ∷ 49 ∷ 32 ∷ 56 ∷ 32 ∷ 54 ∷ 53 ∷ []; asks = Some (ToInsert 1 8 65) }) ∷
    -- "D 1"
    (record { line = 68 ∷ 32 ∷ 49 ∷ []; asks = Some (ToDelete 1) }) ∷
    -- "D 65535"
    (record { line = 68 ∷ 32 ∷ 54 ∷ 53 ∷ 53 ∷ 51 ∷ 53 ∷ []; asks = Some (ToDelete 65535) }) ∷
    -- "D 65536"
    (record { line = 68 ∷ 32 ∷ 54 ∷ 53 ∷ 53 ∷ 51 ∷ 54 ∷ []; asks = None }) ∷
    -- "I 65535 65535 255"
    (record {
      line = 73 ∷ 32 ∷ 54 ∷ 53 ∷ 53 ∷ 51 ∷ 53 ∷ 32 ∷ 54 ∷ 53 ∷ 53 ∷ 51 ∷ 53 ∷ 32 ∷ 50 ∷ 53 ∷ 53 ∷ [];
      asks = Some (ToInsert 65535 65535 255);
    }) ∷
    -- "I 00001 00008 00065"
    (record {
      line = 73 ∷ 32 ∷ 48 ∷ 48 ∷ 48 ∷ 48 ∷ 49 ∷ 32 ∷ 48 ∷ 48 ∷ 48 ∷ 48 ∷ 56 ∷ 32 ∷ 48 ∷ 48 ∷ 48 ∷ 54 ∷ 53 ∷ [];
      asks = Some (ToInsert 1 8 65);
    }) ∷
    -- "I 1 8 65 "
    (record { line = 73 ∷ 32 ∷ 49 ∷ 32 ∷ 56 ∷ 32 ∷ 54 ∷ 53 ∷ 32 ∷ []; asks = None }) ∷
    -- "I  1 8 65"
    (record { line = 73 ∷ 32 ∷ 32 ∷ 49 ∷ 32 ∷ 56 ∷ 32 ∷ 54 ∷ 53 ∷ []; asks = None }) ∷
    -- "I 1 8 256"
    (record { line = 73 ∷ 32 ∷ 49 ∷ 32 ∷ 56 ∷ 32 ∷ 50 ∷ 53 ∷ 54 ∷ []; asks = None }) ∷
    -- "I 000001 8 65"
    (record { line = 73 ∷ 32 ∷ 48 ∷ 48 ∷ 48 ∷ 48 ∷ 48 ∷ 49 ∷ 32 ∷ 56 ∷ 32 ∷ 54 ∷ 53 ∷ []; asks = None }) ∷
    -- "I 1 8"
    (record { line = 73 ∷ 32 ∷ 49 ∷ 32 ∷ 56 ∷ []; asks = None }) ∷
    -- "I 1 8 65 1"
    (record { line = 73 ∷ 32 ∷ 49 ∷ 32 ∷ 56 ∷ 32 ∷ 54 ∷ 53 ∷ 32 ∷ 49 ∷ []; asks = None }) ∷
    -- "D 1 8 65"
    (record { line = 68 ∷ 32 ∷ 49 ∷ 32 ∷ 56 ∷ 32 ∷ 54 ∷ 53 ∷ []; asks = None }) ∷
    -- "D"
    (record { line = 68 ∷ []; asks = None }) ∷
    -- "D "
    (record { line = 68 ∷ 32 ∷ []; asks = None }) ∷
    -- "D 1\r"
    (record { line = 68 ∷ 32 ∷ 49 ∷ 13 ∷ []; asks = None }) ∷
    -- "DD 1"
    (record { line = 68 ∷ 68 ∷ 32 ∷ 49 ∷ []; asks = None }) ∷
    -- " D 1"
    (record { line = 32 ∷ 68 ∷ 32 ∷ 49 ∷ []; asks = None }) ∷
    -- ""
    (record { line = []; asks = None }) ∷
    -- "S"
    (record { line = 83 ∷ []; asks = None }) ∷
    []

-- lines of `drill`
abbrev pub drilled : List Drilled
drilled =
    -- "I 000001 8 65"
    (record { line = 73 ∷ 32 ∷ 48 ∷ 48 ∷ 48 ∷ 48 ∷ 48 ∷ 49 ∷ 32 ∷ 56 ∷ 32 ∷ 54 ∷ 53 ∷ []; asks = Some (Insert 1 8 65) }) ∷
    -- "I 1 65536 65"
    (record { line = 73 ∷ 32 ∷ 49 ∷ 32 ∷ 54 ∷ 53 ∷ 53 ∷ 51 ∷ 54 ∷ 32 ∷ 54 ∷ 53 ∷ []; asks = None }) ∷
    -- "S"
    (record { line = 83 ∷ []; asks = Some Step }) ∷
    -- "S "
    (record { line = 83 ∷ 32 ∷ []; asks = None }) ∷
    -- "S 1"
    (record { line = 83 ∷ 32 ∷ 49 ∷ []; asks = None }) ∷
    -- "A"
    (record { line = 65 ∷ []; asks = Some Sum }) ∷
    -- "C 4096"
    (record { line = 67 ∷ 32 ∷ 52 ∷ 48 ∷ 57 ∷ 54 ∷ []; asks = Some (Confirm 4096) }) ∷
    -- "C 4097"
    (record { line = 67 ∷ 32 ∷ 52 ∷ 48 ∷ 57 ∷ 55 ∷ []; asks = None }) ∷
    -- "L 65536"
    (record { line = 76 ∷ 32 ∷ 54 ∷ 53 ∷ 53 ∷ 51 ∷ 54 ∷ []; asks = Some (Lend 65536) }) ∷
    -- "L 65537"
    (record { line = 76 ∷ 32 ∷ 54 ∷ 53 ∷ 53 ∷ 51 ∷ 55 ∷ []; asks = None }) ∷
    -- "O 9999999"
    (record { line = 79 ∷ 32 ∷ 57 ∷ 57 ∷ 57 ∷ 57 ∷ 57 ∷ 57 ∷ 57 ∷ []; asks = Some (Open 9999999) }) ∷
    -- "O 00000001"
    (record { line = 79 ∷ 32 ∷ 48 ∷ 48 ∷ 48 ∷ 48 ∷ 48 ∷ 48 ∷ 48 ∷ 49 ∷ []; asks = None }) ∷
    -- "D 65535"
    (record { line = 68 ∷ 32 ∷ 54 ∷ 53 ∷ 53 ∷ 51 ∷ 53 ∷ []; asks = Some (Delete 65535) }) ∷
    -- "F 7"
    (record { line = 70 ∷ 32 ∷ 55 ∷ []; asks = Some (Find 7) }) ∷
    -- "R 65536"
    (record { line = 82 ∷ 32 ∷ 54 ∷ 53 ∷ 53 ∷ 51 ∷ 54 ∷ []; asks = None }) ∷
    -- "R 0"
    (record { line = 82 ∷ 32 ∷ 48 ∷ []; asks = Some (Read 0) }) ∷
    -- "X 1"
    (record { line = 88 ∷ 32 ∷ 49 ∷ []; asks = None }) ∷
    -- ""
    (record { line = []; asks = None }) ∷
    []
