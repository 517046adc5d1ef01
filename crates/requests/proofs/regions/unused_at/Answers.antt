-- `regions::unused_at` meets its contract: the region's start and its payload are the buffer's start, and all of it is small.
use native.Mathlib.Omega.{arith}
use Rattle.state.specs.Model.{sizes_in}
use Rattle.requests.proofs.Columns.{buffer_at}
use Rattle.requests.proofs.regions.unused_at.Goals as goal

pub overflow_add-at : goal.overflow_add-at
overflow_add-at c =
    let start = buffer_at (sizes_in _) _ _ _ c.sizes_of-sizes.ensures c.starts.ensures c.requires.0 in
    omega (arith, c.requires.1, start)

pub overflow_add-at-2 : goal.overflow_add-at-2
overflow_add-at-2 c =
    let start = buffer_at (sizes_in _) _ _ _ c.sizes_of-sizes.ensures c.starts.ensures c.requires.0 in
    omega (arith, c.requires.1, start)

pub overflow_cast-result : goal.overflow_cast-result
overflow_cast-result c =
    let start = buffer_at (sizes_in _) _ _ _ c.sizes_of-sizes.ensures c.starts.ensures c.requires.0 in
    omega (arith, c.requires.1, start)

pub returns : goal.returns
returns c =
    let start = buffer_at (sizes_in _) _ _ _ c.sizes_of-sizes.ensures c.starts.ensures c.requires.0 in
    omega (arith, start)
