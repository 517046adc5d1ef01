-- `lines::feeding::feed` meets its contract: the part up to the next line feed is kept; by where it ends (`Kept`).
use mathlib.Core.Path.{refl}
use native.Mathlib.Omega.{arith}
use borrow.Author.Rules.{rules}
use Rattle.lines.specs.Parts.{line_feed}
use Rattle.lines.proofs.Kept.{feed_begun, feed_done, feed_none}
use Rattle.lines.proofs.Parting.{end_within}
use Rattle.lines.proofs.feeding.feed.Goals as goal

pub returns-then-piece-from : goal.returns-then-piece-from
returns-then-piece-from c = feed_none _ _ _ _ (search rules)

pub slice_bounds-keep-end : goal.slice_bounds-keep-end
slice_bounds-keep-end c =
    let args = c.args in
    omega (arith, c.part_end-end.ensures, end_within line_feed args.piece.now args.from (search rules))

pub returns-then-piece-end : goal.returns-then-piece-end
returns-then-piece-end c = feed_begun _ _ _ _ _ c.part_end-end.ensures _ refl _ _
    c.keep-held.ensures (search rules)

pub returns : goal.returns
returns c = feed_done _ _ _ _ _ c.part_end-end.ensures _ refl _ _ c.keep-held.ensures
    (search rules)
