-- `queries::onward` meets its contract: the layout's turns are the moves of the plan, and a run of them ends where the plan waits.
use Prim.Native.Nat.{suc}
use mathlib.Core.Path.{◌≡◌, sym, ◌∙◌}
use lib.ListN.{length}
use borrow.Author.Rules.{rules}
use Rattle.rules.specs.House.{classes}
use Rattle.state.proofs.Told.{next_flush, wait_flush}
use Rattle.state.proofs.queries.onward.Goals as goal

pub returns-clause-turn_value : goal.returns-clause-turn_value
returns-clause-turn_value c =
    let n : length c.args.f.state.regions.sizes ≡ suc classes = (let g = c.well_formed in search rules) in
    next_flush c.args.f.state c.args.f.holds n c.args.f.runs _ _ _ _ c.layout_now-l.ensures.value c.old_count-old.ensures c.ahead_by-now.ensures.value

pub returns-clause-waits_value : goal.returns-clause-waits_value
returns-clause-waits_value c =
    let n : length c.args.f.state.regions.sizes ≡ suc classes = (let g = c.well_formed in search rules) in
    c.run_ends-waits.ensures
    ∙ sym (wait_flush c.args.f.state c.args.f.holds n c.args.f.runs _ _ _ _ c.layout_now-l.ensures.value c.old_count-old.ensures c.ahead_by.ensures.value)
