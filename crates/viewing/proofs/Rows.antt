-- The rows of a map put one by one: those put so far are the text of the first entries.
use Prim.Native.Nat.{ℕ, zero, suc, ◌+◌, ◌-◌, ◌*◌, ◌≤◌, ◌<◌}
use mathlib.Core.Path.{◌≡◌, refl, sym}
use mathlib.Core.Bool.{Bool, true, false}
use mathlib.Core.List.{List, ◌++◌, append_assoc, append-nil}
use native.Mathlib.Nat.{add-zero}
use native.Mathlib.Numerals.{add-one}
use native.Mathlib.Omega.{arith}
use lib.ListN.{length}
use Rattle.rules.specs.House.{most_objects, entry_size, head_size}
use Rattle.rules.specs.Answers.{number_of, accepted}
use Rattle.mapform.specs.Entries.{entry_at, entries_from}
use Rattle.mapform.specs.Reading.{map_answer, count_of}
use Rattle.map_laws.proofs.Again.{passed}
use Rattle.texts.specs.Fields.{Fronted}
use Rattle.texts.proofs.Fronts.{both_front, front_nothing, front_within}
use Rattle.viewing.specs.Views.{head_text, row_text, rows_text, view_text, row_room, head_room}

-- one row more
rows_more : (i : ℕ) (s : List ℕ) (p : ℕ)
    → rows_text (entries_from (suc i) s p) ≡ rows_text (entries_from i s p) ++ row_text (entry_at s (p + entry_size * i))
unfolding rows_text entries_from
rows_more zero s p = rw (add-zero p) (append-nil (row_text (entry_at s p)))
rows_more (suc i) s p =
    let e : (p + entry_size) + entry_size * i ≡ p + entry_size * suc i = omega arith in
    rw (rows_more i s (p + entry_size), e)
    (sym (append_assoc (row_text (entry_at s p)) (rows_text (entries_from i s (p + entry_size))) (row_text (entry_at s (p + entry_size * suc i)))))

-- the count of a map is within its limit, and its bytes hold as many entries
pub count_within : (a : ℕ) (s : List ℕ) → (count_of a s ≤ most_objects) × (entry_size * count_of a s ≤ length s - head_size)
count_within a s = by_test (accepted (map_answer a s)) refl
  where
    by_test : (t : Bool) → accepted (map_answer a s) ≡ t → (count_of a s ≤ most_objects) × (entry_size * count_of a s ≤ length s - head_size)
    by_test true e = let p = passed a s e in rw e (p.few, omega (arith, p.size))
    by_test false e = rw e (omega arith, omega arith)

-- the first i rows are put behind a place of the buffer
pub record Rowing (s : List ℕ) (n : ℕ) (begun : List ℕ) (start : ℕ) (out : List ℕ) (at i : ℕ) : Type 0 where
  pub few : n ≤ most_objects
  pub held : entry_size * n ≤ length s - head_size
  pub within : i ≤ n
  pub near : at ≤ head_room + row_room * i
  pub rows : Fronted begun start (rows_text (entries_from i s head_size)) at out

pub rows_start : (a : ℕ) {s begun : List ℕ} {n start : ℕ} → n ≡ count_of a s → start ≤ head_room → Rowing s n begun start begun start 0
unfolding rows_text entries_from
rows_start a {s} {begun} {n} {start} e near =
    let w = count_within a s in
    record {
      few = omega (arith, w.0);
      held = omega (arith, w.1);
      within = omega arith;
      near = omega arith;
      rows = front_nothing begun start;
    }

pub rows_on : {s begun out after : List ℕ} {n start at i next : ℕ} → Rowing s n begun start out at i → i < n
    → Fronted out at (row_text (entry_at s (head_size + entry_size * i))) next after → next ≤ at + row_room → Rowing s n begun start after next (i + 1)
rows_on {s} {begun} {out} {after} {n} {start} {at} {i} {next} r more p near =
    record {
      few = r.few;
      held = r.held;
      within = omega arith;
      near = omega (arith, r.near);
      rows = rw (add-one i, rows_more i s head_size) (both_front r.rows p);
    }

pub rows_end : (a : ℕ) {s out begun after : List ℕ} {n start at i : ℕ} → n ≡ count_of a s
    → Fronted out 0 (head_text (number_of (map_answer a s)) n) start begun
    → Rowing s n begun start after at i → n ≤ i → Fronted out 0 (view_text a s) at after × (at ≤ length after)
rows_end a {s} {out} {begun} {after} {n} {start} {at} {i} e head r done =
    let all : i ≡ n = omega (arith, r.within) in
    let rows : Fronted begun start (rows_text (entries_from (count_of a s) s head_size)) at after = rw (← e, ← all) r.rows in
    let whole : Fronted out 0 (view_text a s) at after = both_front (rw e at head) rows in
    (whole, front_within whole)
