-- `settled::emptied` meets its contract: both columns are filled with zeros from the boundary on.
use borrow.Author.Rules.{rules}
use Rattle.flushing.proofs.Emptying.{rest_length, emptied_column}
use Rattle.flushing.proofs.settled.emptied.Goals as goal

pub returns : goal.returns
returns c =
    let r = c.args.r in
    let b = c.args.b in
    rw (c.fill.ensures.after (λ y h. search rules), c.fill-2.ensures.after (λ y h. search rules), c.from.ensures, c.from-2.ensures)
    (rw (
      rest_length r.useds b,
      rest_length r.lowests b,
      emptied_column r.useds b c.requires (let g = c.well_formed in search rules),
      emptied_column r.lowests b c.requires (let g = c.well_formed in search rules),
    ))
