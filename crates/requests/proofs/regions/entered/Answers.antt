-- `regions::entered` meets its contract: each store to a column is a put.
use Prim.Native.Nat.{◌+◌}
use lib.ListN.{get_or}
use borrow.Author.Rules.{rules}
use Rattle.rules.specs.Placing.{lower_of}
use Rattle.state.specs.Model.{sizes_in}
use Rattle.requests.proofs.Columns.{set_put}
use Rattle.requests.proofs.regions.entered.Goals as goal

pub returns : goal.returns
unfolding sizes_in
returns c =
    let args = c.args in
    rw (
      c.from.ensures,
      c.lower_of.ensures,
      set_put args.t.useds args.j (get_or _ _ 0 + args.len) (search rules) (search rules),
      set_put args.t.lowests args.j (lower_of (get_or _ _ 0) _) (search rules) (search rules),
    )
