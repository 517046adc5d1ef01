-- `maps::write_in` meets its contract: the lent part becomes the map of the entries seen, and a buffer that is too short is left alone.
use borrow.Author.Rules.{rules}
use Rattle.maps.proofs.Writing.{put_short, seen_size}
use Rattle.mapform.specs.Maps.{map_as}
use Rattle.mapform.specs.Reading.{seen_in}
use Rattle.maps.proofs.write_in.Goals as goal

pub returns-then-buf-need : goal.returns-then-buf-need
returns-then-buf-need c =
    let args = c.args in
    let seen-count = c.seen_count-n in
    put_short (map_as (seen_in args.bytes.now args.count)) args.buf.now _
    (seen_size args.bytes.now args.count seen-count.result seen-count.ensures.value) (search rules)
