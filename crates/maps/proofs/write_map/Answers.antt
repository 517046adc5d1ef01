-- `maps::write_map` meets its contract: the order by name makes of the columns their objects by rising name, and the lent part becomes their map.
-- A buffer that is too short is left alone.
use mathlib.Core.Path.{◌∙◌}
use native.Mathlib.Omega.{arith}
use borrow.Author.Rules.{rules}
use Rattle.ranks.proofs.ByName.{order_taken}
use Rattle.maps.proofs.Writing.{columns_fit, order_inside, order_map, put_done, put_short}
use Rattle.mapform.specs.Maps.{map_of, objects_in}
use Rattle.maps.proofs.write_map.Goals as goal

pub returns-then-buf-size : goal.returns-then-buf-size
returns-then-buf-size c =
    let fit = columns_fit _ _ _ _ _ c.reach_of-n.ensures.value in
    put_short (map_of (objects_in _ _ _ _)) _ _ fit (search rules)

pub put_map-requires : goal.put_map-requires
put_map-requires c =
    let within = c.reach_of-n.ensures.within in
    let n = c.reach_of-n.result in
    let ordered = order_taken c.args.names.now c.name_order-order.result n within.1 c.name_order-order.ensures.in_order in
    let below = order_inside _ _ n (λ i. omega (arith, c.type_inv.names i)) ordered (search rules) in
    (search rules, λ i h. (omega (arith, below i h, within), omega (arith, below i h, within), omega (arith, below i h, within)))

pub returns : goal.returns
returns c =
    let put_map = c.put_map in
    let reached = c.reach_of-n.ensures.value in
    let within = c.reach_of-n.ensures.within in
    let n = c.reach_of-n.result in
    let named = order_taken c.args.names.now c.name_order-order.result n within.1 c.name_order-order.ensures.in_order in
    let ordered = order_map _ _ _ _ _ reached _ named (λ i. omega (arith, c.type_inv.names i)) in
    let fit = columns_fit _ _ _ _ _ reached in
    put_done (map_of (objects_in _ _ _ _)) _ _ fit (search rules) _
    (put_map.ensures ∙ ordered)
