-- `lengths::class_of` meets its contract: the search of the bounds comes to the class.
use mathlib.Core.Path.{◌≡◌, sym, ◌∙◌}
use Rattle.std.proofs.Common.{rules, tests}
use Rattle.std.specs.Prelude.{position, nat_lt}
use Rattle.std.proofs.lemmas.Iterator.{YieldsList-from_slice}
use Rattle.std.proofs.lemmas.Iterator.Search.{position_from_yields_List}
use Rattle.leaves.proofs.Bounds.{bounds, class_found, class_last, class_beyond}
use Rattle.leaves.proofs.lengths.class_of.Goals.{In-Some, In-None}
use Rattle.leaves.proofs.lengths.class_of.Goals as goal

pub returns-in-Some : goal.returns-in-Some
returns-in-Some c =
    let found : c.position.result ≡ position (nat_lt c.args.len) bounds
    = position_from_yields_List (nat_lt c.args.len) _ _ c.position.result c.position.ensures.ran (YieldsList-from_slice _ c.iter.ensures.rest)
    (λ x b q k. search (rules, tests)) in
    class_found _ _ (sym found ∙ c.in-Some.is)

pub returns-in-None : goal.returns-in-None
returns-in-None c =
    let found : c.position.result ≡ position (nat_lt c.args.len) bounds
    = position_from_yields_List (nat_lt c.args.len) _ _ c.position.result c.position.ensures.ran (YieldsList-from_slice _ c.iter.ensures.rest)
    (λ x b q k. search (rules, tests)) in
    class_beyond _ (sym found ∙ c.in-None.is) (search rules)

pub returns-in-None-2 : goal.returns-in-None-2
returns-in-None-2 c =
    let found : c.position.result ≡ position (nat_lt c.args.len) bounds
    = position_from_yields_List (nat_lt c.args.len) _ _ c.position.result c.position.ensures.ran (YieldsList-from_slice _ c.iter.ensures.rest)
    (λ x b q k. search (rules, tests)) in
    class_last _ (sym found ∙ c.in-None.is) (search rules)
