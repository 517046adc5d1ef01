-- `limits::objects_fit` meets its contract: a test of each pair of a name and a length is the test of each object.
use mathlib.Core.Path.{sym, ◌∙◌}
use Rattle.std.proofs.Common.{rules, tests}
use Rattle.std.proofs.lemmas.Iterator.{YieldsList-from_slice, YieldsList-from_zip}
use Rattle.std.proofs.lemmas.Iterator.Search.{all_from_yields_List}
use Rattle.rules.specs.Sound.{object_fits}
use Rattle.sound_limits.specs.Limits.{called}
use Rattle.sound_limits.proofs.Listed.{each_listed}
use Rattle.sound_limits.proofs.Chains.{every_pair}
use Rattle.sound_limits.proofs.limits.objects_fit.Goals as goal

pub returns : goal.returns
returns c = λ places.
    let args = c.args in
    all_from_yields_List (λ p. object_fits (called p.0 p.1)) c.all.new.self _ c.all.result c.all.ensures.ran
    (YieldsList-from_zip (YieldsList-from_slice args.names.now cc) (YieldsList-from_slice args.lens.now cc)) (λ x b q k. search (rules, tests))
    ∙ every_pair (λ name len. object_fits (called name len)) args.names.now args.lens.now (search rules)
    ∙ sym (each_listed args.names.now places args.lens.now object_fits 0 _)
