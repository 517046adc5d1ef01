-- `balance::is_clean` meets its contract: a test of each number of the range is the test of every buffer from the class on.
use mathlib.Core.Path.{refl, ◌∙◌}
use mathlib.Core.Bool.{not}
use Rattle.std.proofs.Common.{rules, tests}
use Rattle.std.proofs.lemmas.Iterator.{YieldsList-from_range}
use Rattle.std.proofs.lemmas.Iterator.Search.{all_from_yields_List}
use Rattle.rules.specs.Boundary.{reaches, clean}
use Rattle.sound_limits.proofs.Chains.{every_range}
use Rattle.sound_rest.proofs.balance.is_clean.Goals as goal

pub returns : goal.returns
unfolding clean
returns c =
    let args = c.args in
    let test = reaches args.regions.now.useds args.regions.now.lowests args.class in
    all_from_yields_List (λ j. not (test j)) c.all.new.self _ c.all.result c.all.ensures.ran
    (YieldsList-from_range args.class 13 _ refl refl) (λ j b q k. search (rules, tests))
    ∙ every_range (λ j. not (test j)) args.class _
