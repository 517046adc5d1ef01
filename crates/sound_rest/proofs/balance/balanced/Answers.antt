-- `balance::balanced` meets its contract: a test of each number of the range is the test of every class.
use mathlib.Core.Path.{refl, ◌∙◌}
use Rattle.std.proofs.Common.{rules, tests}
use Rattle.std.proofs.lemmas.Iterator.{YieldsList-from_range}
use Rattle.std.proofs.lemmas.Iterator.Search.{all_from_yields_List}
use Rattle.rules.specs.House.{classes}
use Rattle.rules.specs.Regions.{col}
use Rattle.sound_limits.proofs.Chains.{every_range}
use Rattle.sound_rest.specs.Rest.{regions_of, enough_from}
use Rattle.sound_rest.proofs.balance.balanced.Goals as goal

pub returns : goal.returns
returns c =
    let args = c.args in
    let test = enough_from (regions_of args.regions.now) (col args.lives.now) in
    all_from_yields_List test c.all.new.self _ c.all.result c.all.ensures.ran
    (YieldsList-from_range 1 13 classes refl refl) (λ k b q e. search (rules, tests))
    ∙ every_range test 1 classes
