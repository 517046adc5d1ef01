-- A map that is opened and written again gives the same bytes: an accepted map has room for its entries, so all of them are seen.
use Prim.Native.Nat.{ℕ, ◌-◌, ◌*◌}
use mathlib.Core.Path.{◌≡◌, ap, ◌∙◌}
use mathlib.Core.Bool.{true}
use mathlib.Core.List.{List}
use native.Mathlib.Omega.{arith}
use borrow.Author.Tests.{le-leb}
use lib.ListN.{length}
use denote.Ref.{Bor}
use Rattle.rules.specs.House.{entry_size, head_size}
use Rattle.rules.specs.Answers.{accepted}
use Rattle.mapform.specs.Entries.{word_at, entries_from}
use Rattle.mapform.specs.Maps.{map_as}
use Rattle.mapform.specs.Reading.{map_answer, count_of, seen_count}
use Rattle.mapform.proofs.Copies.{Bytes}
use Rattle.map_laws.proofs.Again.{passed, again_as}
use Rattle.readers.specs.Readers.{opened, map_by}

all_seen : (a : ℕ) (s : List ℕ) → accepted (map_answer a s) ≡ true → seen_count s (count_of a s) ≡ count_of a s
all_seen a s e = let p = passed a s e in rw (e, le-leb (entry_size * word_at s 5) (length s - head_size) (omega (arith, p.size)))

-- a map accepted, opened and written again: the same bytes
pub opened_again : (a : ℕ) (b : Bor (List ℕ)) → Bytes b.now → accepted (map_answer a b.now) ≡ true → map_by (opened a b) ≡ b.now
opened_again a b bs e = ap (λ (n : ℕ). map_as (entries_from n b.now head_size)) (all_seen a b.now e) ∙ again_as a b.now bs e
