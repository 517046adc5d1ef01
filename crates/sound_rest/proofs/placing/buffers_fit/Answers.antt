-- `placing::buffers_fit` meets its contract: a test of each number of the range is both tests of every class.
use mathlib.Core.Path.{refl, ◌∙◌}
use mathlib.Core.Bool.{◌&&◌}
use Rattle.std.proofs.Common.{rules, tests}
use Rattle.std.proofs.lemmas.Iterator.{YieldsList-from_range}
use Rattle.std.proofs.lemmas.Iterator.Search.{all_from_yields_List}
use Rattle.rules.specs.House.{share, classes}
use Rattle.rules.specs.Sound.{used_fits, lowest_fits}
use Rattle.sound_limits.proofs.Chains.{every_range}
use Rattle.sound_rest.specs.Rest.{regions_of}
use Rattle.sound_rest.proofs.Tests.{every_both}
use Rattle.sound_rest.proofs.placing.buffers_fit.Goals as goal

pub returns : goal.returns
returns c =
    let t = regions_of c.args.regions.now in
    all_from_yields_List (λ k. used_fits share t k && lowest_fits t k) c.all.new.self _ c.all.result c.all.ensures.ran
    (YieldsList-from_range 1 13 classes refl refl) (λ k b q e. search (rules, tests))
    ∙ every_range (λ k. used_fits share t k && lowest_fits t k) 1 classes
    ∙ every_both (used_fits share t) (lowest_fits t) 1 classes
