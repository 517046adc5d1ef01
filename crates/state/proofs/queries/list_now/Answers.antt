-- `queries::list_now` meets its contract: at rest the objects, in a flush those that the moves made have left.
use mathlib.Core.Path.{◌≡◌, sym, ◌∙◌}
use native.Mathlib.Omega.{arith}
use lib.ListN.{length}
use borrow.Author.Rules.{rules}
use Rattle.rules.specs.House.{most_objects}
use Rattle.state.proofs.Ready.{count_few}
use Rattle.state.proofs.Told.{limits_sound, list_rest, list_flush}
use Rattle.state.proofs.queries.list_now.Goals as goal

pub returns-then-rests : goal.returns-then-rests
returns-then-rests c = sym (list_rest _ (sym c.rests.ensures ∙ c.if-rests.true))

pub returns : goal.returns
returns c =
    let s = c.args.c.state in
    let pre = c.args.c.holds in
    c.moved_by.ensures ∙ rw (c.layout_now-l.ensures.value, c.old_count.ensures)
    (sym (list_flush s pre (let g = c.well_formed in search rules)
    (sym c.rests.ensures ∙ c.if-rests.false)
    (let long : length s.objects.places ≡ most_objects = (let g = c.well_formed in search rules) in omega (arith, long, count_few s (limits_sound s pre)))))
