-- `running::layout_in` meets its contract: of the column of lengths the layout reads those of the objects.
use native.Mathlib.Omega.{arith}
use Rattle.layout.proofs.Taken.{layout_taken}
use Rattle.state.proofs.running.layout_in.Goals as goal

pub returns-clause-value : goal.returns-clause-value
returns-clause-value c =
    let s = c.args.s in
    rw (
      c.sizes_of-column.ensures,
      layout_taken s.objects.lens s.count (let g = c.well_formed in let r = c.requires in omega arith) _ _ _ _ c.requires.part,
    ) at c.layout_of.ensures.value
