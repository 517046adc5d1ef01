-- `places::middle_starts` meets its contract.
use Rattle.layout.specs.Layout.{middle_starts}
use borrow.Author.Rules.{rules}
use Rattle.layout.proofs.places.middle_starts.Goals as goal

pub returns : goal.returns
unfolding middle_starts
returns c = search rules
