-- `placing::in_some_buffer` meets its contract: a test of each number of the range is the test of some buffer.
use mathlib.Core.Path.{refl, ◌∙◌}
use Rattle.std.proofs.Common.{rules, tests}
use Rattle.std.proofs.lemmas.Iterator.{YieldsList-from_range}
use Rattle.std.proofs.lemmas.Iterator.Search.{any_from_yields_List}
use Rattle.rules.specs.House.{share, classes}
use Rattle.rules.specs.Sound.{in_buffer}
use Rattle.sound_rest.specs.Rest.{regions_of, unnamed}
use Rattle.sound_rest.proofs.Lying.{some_range}
use Rattle.sound_rest.proofs.placing.in_some_buffer.Goals as goal

pub returns : goal.returns
returns c =
    let t = regions_of c.args.laid.now.regions.now in
    let o = unnamed c.args.object.at c.args.object.len in
    any_from_yields_List (in_buffer share t o) c.any.new.self _ c.any.result c.any.ensures.ran
    (YieldsList-from_range 1 13 classes refl refl) (λ j b q e. search (rules, tests))
    ∙ some_range share t o 1 classes
