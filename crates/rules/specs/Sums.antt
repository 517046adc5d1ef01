-- The sums of 01 as one table: what the rules compute, beside what 01 says. proofs/Sums.antt covers it by one statement.
use Rattle.std.specs.Prelude.{ℕ, zero, suc, Bool, true, false, cond, ◌&&◌, List, [], ◌∷◌, ◌++◌, map, replicate, eqb}
use Rattle.rules.specs.House.{share, longest, quota_of}
use Rattle.rules.specs.Classes.{class_of, volume}
use Rattle.rules.specs.Regions.{col, footprint}
use Rattle.rules.specs.Flush.{Start, Act, move, wait, longest_of, new_footprint, old_buffers, overflow_start, plan}
use Rattle.rules.specs.Stores.{Store, Stage, resting, flushing, start_in, held_by}
use Rattle.rules.specs.Answers.{number_of}
use Rattle.rules.specs.Calls.{Outcome, open_store, insert_of, delete_of, step_of, confirm_of, footprint_of, volume_held, is_due, map_size}

-- one sum: what the rules compute, and what 01 says
pub record Sum : Type 0 where
  pub computed : List ℕ
  pub said : List ℕ

-- a fresh store for the least area
abbrev pub fresh : Store
fresh = open_store 16384

-- an insert of n bytes under a name, the area lent
abbrev pub put : Store → ℕ → ℕ → Outcome
put s name n = insert_of s 16384 name (replicate n 0)

-- the number of waits of a plan
unfoldable pub waits_in : List Act → ℕ
waits_in [] = 0
waits_in (wait ∷ acts) = suc (waits_in acts)
waits_in (move m ∷ acts) = waits_in acts

-- name, place and target of each move of a plan
unfoldable pub moves_in : List Act → List ℕ
moves_in [] = []
moves_in (wait ∷ acts) = moves_in acts
moves_in (move m ∷ acts) = m.object.name ∷ m.object.at ∷ m.to ∷ moves_in acts

-- the numbers of a flush: b, F, F', B, D, G, the waits, then its moves
unfoldable pub numbers_of : Start → List ℕ
numbers_of s =
    s.boundary
    ∷ footprint share s.regions.sizes
    ∷ new_footprint share s
    ∷ old_buffers share s
    ∷ longest_of s
    ∷ overflow_start share s
    ∷ waits_in (plan share s)
    ∷ moves_in (plan share s)

-- the numbers of the flush that a store is in, none at rest
abbrev pub flush_in : Store → Stage → List ℕ
flush_in s resting = []
flush_in s (flushing f) = numbers_of (start_in s f)

-- the same, by the store alone
abbrev pub flush_of : Store → List ℕ
flush_of s = flush_in s s.stage

-- a flush goes on: n times a step, or a confirmation where one is due
unfoldable pub onward : ℕ → Store → Store
onward zero s = s
onward (suc n) s =
    let confirmed = (confirm_of s 65535).store in
    let moved = (step_of s (replicate 16384 0)).store in
    onward n (cond (is_due s) confirmed moved)

-- footprint and volume
abbrev pub sizes_of : Store → List ℕ
sizes_of s = footprint_of s ∷ volume_held s ∷ []

-- an insert's answer and place
abbrev pub placing : Outcome → List ℕ
placing o = number_of o.answer ∷ o.write.at ∷ []

-- objects of 8 and 2, as the example's first two lines leave them
unfoldable pub eight_two : Store
eight_two = (put (put fresh 1 8).store 2 2).store

-- objects of 16 and 4
unfoldable pub sixteen_four : Store
sixteen_four = (put (put fresh 1 16).store 2 4).store

-- an object of 16, and the record of a 2
unfoldable pub sixteen_record : Store
sixteen_record = (delete_of (put (put fresh 1 16).store 2 2).store 2).store

-- the example's third line run to rest: five moves and four waits
unfoldable pub third_line : Store
third_line = onward 9 (put eight_two 3 1).store

-- an object of 16, and the record of a 1 that lay before it
unfoldable pub small_record : Store
small_record = (delete_of (put (put fresh 1 1).store 2 16).store 1).store

-- (a) the third line of the example
abbrev pub sum_a : Sum
sum_a = record {
  computed = placing (put eight_two 3 1) ++ flush_of (put eight_two 3 1).store;
  said =
      20 ∷ 25 ∷ 1 ∷ 10 ∷ 13 ∷ 2 ∷ 8 ∷ 23 ∷ 4 ∷
      2 ∷ 8 ∷ 23 ∷ 1 ∷ 0 ∷ 15 ∷ 1 ∷ 15 ∷ 3 ∷ 2 ∷ 23 ∷ 1 ∷ 3 ∷ 25 ∷ 0 ∷ [];
}

-- (b) 16 and 4, then the 4 deleted
abbrev pub sum_b : Sum
sum_b = record {
  computed = placing (put fresh 1 16) ++ (placing (put (put fresh 1 16).store 2 4) ++ flush_of (delete_of sixteen_four 2).store);
  said = 0 ∷ 0 ∷ 0 ∷ 16 ∷ 3 ∷ 20 ∷ 20 ∷ 4 ∷ 16 ∷ 40 ∷ 2 ∷ 1 ∷ 0 ∷ 24 ∷ 1 ∷ 24 ∷ 0 ∷ [];
}

-- (c) 16 and 2, the 2 deleted, then a new 2
abbrev pub sum_c : Sum
sum_c = record {
  computed = flush_of sixteen_record ++ (col sixteen_record.regions.useds 5 ∷ volume (held_by sixteen_record) ∷ flush_of (put sixteen_record 3 2).store);
  said = 4 ∷ 16 ∷ 2 ∷ 20 ∷ 22 ∷ 4 ∷ 16 ∷ 42 ∷ 3 ∷ 1 ∷ 0 ∷ 26 ∷ 1 ∷ 26 ∷ 2 ∷ 3 ∷ 42 ∷ 0 ∷ [];
}

-- (d) classes of lengths
abbrev pub sum_d : Sum
sum_d = record { computed = map class_of (1 ∷ 3 ∷ 4 ∷ 2047 ∷ 2048 ∷ 4095 ∷ []); said = 1 ∷ 2 ∷ 3 ∷ 11 ∷ 12 ∷ 12 ∷ [] }

-- (e) the quota at both ends of A
abbrev pub sum_e : Sum
sum_e = record { computed = map (quota_of share longest) (65536 ∷ 16384 ∷ []); said = 24576 ∷ 3511 ∷ [] }

-- (f) the empty map
abbrev pub sum_f : Sum
sum_f = record { computed = map_size 0 ∷ []; said = 7 ∷ [] }

-- (g) at the quota, and one above
abbrev pub sum_g : Sum
sum_g = record { computed = number_of (put fresh 1 3511).answer ∷ number_of (put fresh 1 3512).answer ∷ []; said = 0 ∷ 8 ∷ [] }

-- (h) the only object deleted: no move, one wait, F' = 0, D = 0
abbrev pub sum_h : Sum
sum_h = record { computed = flush_of (delete_of (put fresh 1 5).store 1).store; said = 3 ∷ 6 ∷ 0 ∷ 1 ∷ 0 ∷ 7 ∷ 1 ∷ [] }

-- the example's third and fourth line: footprint and volume before the last confirmation and at rest
abbrev pub sum_example : Sum
sum_example = record {
  computed = sizes_of (onward 8 (put eight_two 3 1).store)
      ++ (sizes_of third_line ++ (flush_of third_line ++ sizes_of (onward 1 (delete_of third_line 1).store)));
  said = 26 ∷ 11 ∷ 13 ∷ 11 ∷ 3 ∷ 3 ∷ [];
}

-- not one of 01's: the record of a 1 draws the boundary of a 4 down to class 1
abbrev pub sum_i : Sum
sum_i = record {
  computed = flush_of (put small_record 3 4).store;
  said = 1 ∷ 21 ∷ 25 ∷ 4 ∷ 16 ∷ 45 ∷ 3 ∷ 2 ∷ 1 ∷ 29 ∷ 2 ∷ 29 ∷ 5 ∷ 3 ∷ 45 ∷ 0 ∷ [];
}

-- not one of 01's: the new object is the longest
abbrev pub sum_j : Sum
sum_j = record {
  computed = flush_of (put (put fresh 1 8).store 2 9).store;
  said = 4 ∷ 10 ∷ 21 ∷ 2 ∷ 9 ∷ 32 ∷ 3 ∷ 1 ∷ 0 ∷ 24 ∷ 1 ∷ 24 ∷ 0 ∷ 2 ∷ 32 ∷ 8 ∷ [];
}

-- not one of 01's: the longest object is deleted, and the one left is of a class that is not flushed
abbrev pub sum_k : Sum
sum_k = record { computed = flush_of (delete_of (put (put fresh 1 1).store 2 5).store 2).store; said = 3 ∷ 7 ∷ 1 ∷ 1 ∷ 1 ∷ 9 ∷ 1 ∷ [] }

-- the table
abbrev pub sums : List Sum
sums = sum_k ∷ sum_j ∷ sum_h ∷ sum_i ∷ sum_a ∷ sum_b ∷ sum_c ∷ sum_d ∷ sum_e ∷ sum_f ∷ sum_g ∷ sum_example ∷ []

-- two lists of numbers are the same
unfoldable pub same : List ℕ → List ℕ → Bool
same [] [] = true
same [] (y ∷ ys) = false
same (x ∷ xs) [] = false
same (x ∷ xs) (y ∷ ys) = eqb x y && same xs ys

-- every sum comes out as said
unfoldable pub all_as_said : List Sum → Bool
all_as_said [] = true
all_as_said (s ∷ ss) = same s.computed s.said && all_as_said ss
