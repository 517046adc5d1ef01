-- `regions::raised` meets its contract: the store to the payload sizes is a put, beside the size of class 0.
use borrow.Author.Rules.{rules}
use Rattle.state.specs.Model.{sizes_in}
use Rattle.requests.proofs.Columns.{size_put}
use Rattle.requests.proofs.regions.raised.Goals as goal

pub returns : goal.returns
unfolding sizes_in
returns c =
    let args = c.args in
    rw (c.from.ensures, size_put args.t.sizes args.class _ (search rules) (search rules) (search rules))
