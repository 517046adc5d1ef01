-- The tests of each call of a history, in their order.
use Rattle.std.specs.Prelude.{List, [], ◌∷◌, ◌++◌, ℕ, length, take, ltb}
use Rattle.rules.specs.Stores.{Store, held_by}
use Rattle.rules.specs.Answers.{Test}
use Rattle.rules.specs.Calls.{test, running, due_in, store_tests, name_tests, insert_tests, map_size}
use Rattle.rules.specs.History.{Call, insert, delete, step, confirm}
use Rattle.rules.specs.declared.Answer.TheVariants.{Busy, CheckpointDue, ShortBuffer}

-- the tests of a call, as the table of answers has them
abbrev pub tests_of : Store → List ℕ → Call → List Test
tests_of s area (insert lent n page) = insert_tests s (length (take lent area)) n page
tests_of s area (delete n) = store_tests s s.area ++ (test (running s.stage) Busy ∷ name_tests s n)
tests_of s area (step lent) = store_tests s (length (take lent area)) ++ (test (due_in s.stage) CheckpointDue ∷ [])
tests_of s area (confirm room) = store_tests s s.area ++ (test (ltb room (map_size (length (held_by s)))) ShortBuffer ∷ [])
