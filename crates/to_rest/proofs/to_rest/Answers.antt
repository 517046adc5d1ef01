use Prim.Native.Nat.{◌-◌, ◌+◌}
use mathlib.Core.Path.{refl, ap, ◌∙◌}
use native.Mathlib.Omega.{arith}
use borrow.Author.Rules.{rules}
use Rattle.store.specs.Served.{model}
use Rattle.to_rest.specs.Runs.{to_rest, fuel}
use Rattle.to_rest.specs.declared.Ran.{Ran}
use Rattle.to_rest.specs.Values.{ran_in}
use Rattle.to_rest.proofs.Onward.{ended, idled, moved_on, run_starts, waited_on}
use Rattle.to_rest.proofs.to_rest.Goals as goal
use Rattle.to_rest.proofs.to_rest.Goals.{in-Move, in-Wait}

pub loop-turn-init : goal.loop-turn-init
loop-turn-init c = (
  refl,
  run_starts (ran_in c.starting-ran.result c.args.area.now) (ap (λ (x : Ran). x.moves) c.starting-ran.ensures)
      (ap (λ (x : Ran). x.waits) c.starting-ran.ensures),
)

pub returns-in-Nothing : goal.returns-in-Nothing
returns-in-Nothing c =
    idled c.loop-turn.invariant.1 (fuel - (c.loop-turn._turn + 1)) (omega arith) (model c.turn-t.result.store) _ (rw c.in-Nothing.is at c.turn-t.ensures)
    ∙ ap (λ (x : Ran). to_rest fuel (ran_in x c.args.area.now)) c.starting-ran.ensures

pub loop-turn-preserved : goal.loop-turn-preserved
loop-turn-preserved c =
    let onward = c.loop-turn.invariant.1 in
    let left = fuel - (c.loop-turn._turn + 1) in
    let store = model c.turn-t.result.store in (
      search rules,
      elim c.match-t.branch [
        | in-Move w ↦ rw w.ran-is (moved_on onward left (omega arith) store _ (rw w.in-Move.is at c.turn-t.ensures))
        | in-Wait w ↦ rw w.ran-is (waited_on onward left (omega arith) store _ (rw w.in-Wait.is at c.turn-t.ensures))
      ],
    )

pub returns : goal.returns
returns c = ended c.loop-turn.invariant.1 (omega arith)
    ∙ ap (λ (x : Ran). to_rest fuel (ran_in x c.args.area.now)) c.starting-ran.ensures
