use Rattle.sound_limits.proofs.Rising.{rise_start, rise_next, rise_stop, rise_end}
use borrow.Author.Rules.{rules}
use Rattle.sound_limits.proofs.names.names_differ.Goals as goal

pub loop-i-init : goal.loop-i-init
loop-i-init c =
    rise_start _ _ _ c.name_order-order.ensures.narrow (search rules) c.name_order-order.ensures.in_order

pub returns-then-names-here : goal.returns-then-names-here
returns-then-names-here c = rise_stop c.loop-i.invariant (search rules) (search rules)

pub loop-i-preserved : goal.loop-i-preserved
loop-i-preserved c = rise_next c.loop-i.invariant (search rules) (search rules)

pub returns : goal.returns
returns c = rise_end c.loop-i.invariant (search rules)
