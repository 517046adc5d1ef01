-- `step` meets its contract: what the tests have shown bounds the next turn, and its move is the step's.
use native.Mathlib.Omega.{arith}
use borrow.Author.Rules.{rules}
use Rattle.flushing.proofs.Stepping.{can_step, turn_there, steps}
use Rattle.flushing.proofs.step.Goals as goal

pub onward-o-requires : goal.onward-o-requires
onward-o-requires c = can_step c.args.f.state c.args.area.now (search rules) c.args.f.runs c.requires

pub unwrap-t-requires : goal.unwrap-t-requires
unwrap-t-requires c =
    turn_there c.args.f.state c.args.area.now (search rules) c.args.f.runs c.requires c.onward-o.result.turn c.onward-o.ensures.turn_value

pub offset_bounds-f-t : goal.offset_bounds-f-t
offset_bounds-f-t c =
    let k = steps c.args.f.state c.args.area.now (search rules) c.args.f.runs c.requires _ c.unwrap-t.result c.unwrap-t.ensures
    c.onward-o.ensures.turn_value c.onward-o.ensures.index_lt_count in
    omega (arith, k.index_fits)

pub bounds-f-t : goal.bounds-f-t
bounds-f-t c =
    let k = steps c.args.f.state c.args.area.now (search rules) c.args.f.runs c.requires _ c.unwrap-t.result c.unwrap-t.ensures
    c.onward-o.ensures.turn_value c.onward-o.ensures.index_lt_count in
    omega (arith, k.index_fits)

pub move_page-requires : goal.move_page-requires
move_page-requires c =
    let k = steps c.args.f.state c.args.area.now (search rules) c.args.f.runs c.requires _ c.unwrap-t.result c.unwrap-t.ensures
    c.onward-o.ensures.turn_value c.onward-o.ensures.index_lt_count in
    rw c.from-len.ensures (k.len_fits, omega (arith, k.from_fits, k.to_fits), omega (arith, k.from_fits, k.to_fits))

pub advanced-requires-clause-made_few : goal.advanced-requires-clause-made_few
advanced-requires-clause-made_few c = can_step c.args.f.state c.args.area.now (search rules) c.args.f.runs c.requires

pub returns-clause-value : goal.returns-clause-value
returns-clause-value c =
    let k = steps c.args.f.state c.args.area.now (search rules) c.args.f.runs c.requires _ c.unwrap-t.result c.unwrap-t.ensures
    c.onward-o.ensures.turn_value c.onward-o.ensures.index_lt_count in
    rw k.outcome c.advanced.ensures

pub returns-clause-area_after : goal.returns-clause-area_after
returns-clause-area_after c =
    let k = steps c.args.f.state c.args.area.now (search rules) c.args.f.runs c.requires _ c.unwrap-t.result c.unwrap-t.ensures
    c.onward-o.ensures.turn_value c.onward-o.ensures.index_lt_count in
    rw (k.outcome, ← c.from-len.ensures) c.move_page.ensures
