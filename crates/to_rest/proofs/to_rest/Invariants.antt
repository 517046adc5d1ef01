-- `to_rest::to_rest` meets its contract. The turns left lead from here to where all turns lead from the start (`Onward`).
use Prim.Native.Nat.{◌-◌}
use mathlib.Core.Path.{◌≡◌}
use Rattle.to_rest.specs.Runs.{fuel}
use Rattle.to_rest.specs.Values.{ran_in}
use Rattle.to_rest.proofs.Onward.{Onward}
use lib.ListN.{length}
use Rattle.to_rest.proofs.to_rest.Given as goal

abbrev pub invariant-loop-turn : goal.invariant-loop-turn
invariant-loop-turn l =
    (length l.area ≡ length l.initial.area) × Onward (ran_in l.initial.ran l.initial.area) (fuel - l._turn) (ran_in l.ran l.area)
