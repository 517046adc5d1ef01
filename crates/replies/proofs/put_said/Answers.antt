-- `replies::put_said` meets its contract: each arm puts one kind of line, and there is room for all.
use mathlib.Core.List.{[], ◌∷◌}
use native.Mathlib.Omega.{arith}
use Rattle.texts.proofs.Fronts.{field_short, line_short}
use Rattle.replies.proofs.put_said.Goals as goal

pub put_line-requires : goal.put_line-requires
put_line-requires c = omega (arith, field_short)

pub put_line-requires-in-Three : goal.put_line-requires-in-Three
put_line-requires-in-Three c = omega (arith, line_short (c.in-Three.a ∷ c.in-Three.b ∷ c.in-Three.c ∷ []))
