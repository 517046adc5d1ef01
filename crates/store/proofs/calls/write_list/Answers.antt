-- `write_list` meets its contract: columns as long as the most objects hold all the objects of the list, so what is written is its map.
use mathlib.Core.Path.{◌≡◌, sym, ap, ◌∙◌}
use mathlib.Core.List.{List}
use Prim.Native.Nat.{ℕ, ◌≤◌}
use lib.ListN.{length}
use borrow.Author.Tests.{le-leb}
use borrow.Author.Rules.{rules}
use Rattle.rules.specs.House.{most_objects}
use Rattle.rules.specs.Columns.{listed}
use Rattle.mapform.specs.Maps.{map_of, put_into, objects_in}
use Rattle.state.proofs.Told.{limits_sound}
use Rattle.state.proofs.Ready.{count_few}
use Rattle.store.proofs.calls.write_list.Goals as goal

columns-whole : (ns ps ls : List ℕ) (n : ℕ) → most_objects ≡ length ns → most_objects ≡ length ps → most_objects ≡ length ls → n ≤ most_objects
    → objects_in ns ps ls n ≡ listed ns ps ls 0 n
columns-whole ns ps ls n a b c few = rw (sym a, sym b, sym c, le-leb n most_objects few)

pub returns : goal.returns
returns c =
    let s = c.args.c.state in
    let list = c.list_now-list.result in
    let whole = columns-whole list.names list.places list.lens s.count (search rules) (search rules) (search rules)
    (count_few s (limits_sound s c.args.c.holds)) in
    c.write_map.ensures.1
    ∙ ap (λ (m : List ℕ). put_into m c.args.buf.now)
    (ap map_of (whole ∙ c.list_now-list.ensures))
