-- `lengths::quota` meets its contract: the subtraction of ℕ stops at 0, as that of the code.
use borrow.Author.Rules.{rules}
use Rattle.rules.specs.House.{quota_of}
use Rattle.leaves.proofs.lengths.quota.Goals as goal

pub returns : goal.returns
unfolding quota_of
returns c = search rules
