-- `session::put_ran` meets its contract: the line's front is the text of the five numbers, and that is put.
use mathlib.Core.Path.{sym}
use mathlib.Core.List.{[], ◌∷◌}
use native.Mathlib.Omega.{arith}
use lib.Seq.{length-take-le}
use Rattle.texts.proofs.Fronts.{front_text, front_within, line_short}
use Rattle.session.proofs.put_ran.Goals as goal

pub put_line-end-requires : goal.put_line-end-requires
put_line-end-requires c =
    omega (arith, line_short (c.from.result ∷ c.from-2.result ∷ c.from-3.result ∷ c.sizes_of-sizes.result.footprint ∷ c.sizes_of-sizes.result.volume ∷ []))

pub slice_bounds-put_bytes-end : goal.slice_bounds-put_bytes-end
slice_bounds-put_bytes-end c = sym (length-take-le _ _ (front_within c.put_line-end.ensures))

pub returns : goal.returns
returns c =
    let sizes-of-said = c.sizes_of-sizes.ensures in
    let put = rw (front_text c.put_line-end.ensures) at c.put_bytes.ensures in
    let said = rw (c.from.ensures, c.from-2.ensures, c.from-3.ensures, sizes-of-said.footprint_value, sizes-of-said.volume_value) at put in
    record { value = said.0; out_after = said.1 }
