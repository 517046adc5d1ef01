-- A map that is too long is shown by its beginning, one byte longer than any map, as by all of it: no map has so many bytes, and the tests before
-- that of the size read seven.
use Prim.Native.Nat.{ℕ, suc, ◌≤◌, ◌<◌}
use mathlib.Core.Path.{◌≡◌, refl}
use mathlib.Core.Bool.{Bool, true, false}
use mathlib.Core.List.{List}
use native.Mathlib.Omega.{arith}
use borrow.Author.Tests.{leb-true, eqb-true, le-leb}
use lib.Dec.{leb, eqb}
use lib.ListN.{length, get_or, take}
use lib.Seq.{length-take-le, get_or-take}
use Rattle.rules.specs.House.{most_objects, head_size}
use Rattle.rules.specs.Answers.{first, accepted}
use Rattle.rules.specs.Calls.{map_size}
use Rattle.rules.proofs.Lists.{and_true}
use Rattle.mapform.specs.Entries.{word_at, entries_from}
use Rattle.mapform.specs.Reading.{size_fits, map_answer, count_of}
use Rattle.map_laws.proofs.Again.{passed}
use Rattle.viewing.specs.Views.{rows_text, view_text}

-- one byte more than the fullest map has
abbrev pub past : ℕ
past = suc (map_size most_objects)

module _ (s : List ℕ) (long : past ≤ length s) where
  -- the size is wrong: it is past that of the fullest map
  size_wrong : size_fits s ≡ false
  size_wrong = by_test (size_fits s) refl
    where
      by_test : (t : Bool) → size_fits s ≡ t → size_fits s ≡ false
      by_test false e = e
      by_test true e =
          let p = and_true (leb (word_at s 5) most_objects) (eqb (length s) (map_size (word_at s 5))) e in
          absurd (omega (arith, leb-true (word_at s 5) most_objects p.0, eqb-true (length s) (map_size (word_at s 5)) p.1))

  -- no entry is shown
  count_zero : (a : ℕ) → count_of a s ≡ 0
  count_zero a = by_test (accepted (map_answer a s)) refl
    where
      by_test : (t : Bool) → accepted (map_answer a s) ≡ t → count_of a s ≡ 0
      by_test false e = rw e
      by_test true e = let p = passed a s e in absurd (omega (arith, p.few, p.size))

module _ (a : ℕ) (s : List ℕ) (long : past ≤ length s) where
  cut_long : length (take past s) ≡ past
  cut_long = length-take-le past s long

  same_at : (i : ℕ) → i < past → get_or (take past s) i 0 ≡ get_or s i 0
  same_at i h = get_or-take past s i 0 h

  cut_answer : map_answer a (take past s) ≡ map_answer a s
  unfolding map_answer first
  cut_answer =
      rw (
        size_wrong s long,
        size_wrong (take past s) (omega (arith, cut_long)),
        le-leb head_size (length s) (omega arith),
        cut_long,
        same_at 0 (omega arith),
        same_at 1 (omega arith),
        same_at 2 (omega arith),
        same_at 3 (omega arith),
        same_at 4 (omega arith),
      )

  pub cut_view : view_text a (take past s) ≡ view_text a s
  unfolding rows_text entries_from
  cut_view = rw (count_zero s long a, count_zero (take past s) (omega (arith, cut_long)) a, cut_answer)
