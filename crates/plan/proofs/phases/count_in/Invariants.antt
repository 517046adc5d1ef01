-- `phases::count_in` meets its contract: those of the kind that were found and those left are all.
use Rattle.plan.proofs.Laws.{Counting}
use Rattle.plan.proofs.phases.count_in.Given as goal

abbrev pub invariant-loop-kind : goal.invariant-loop-kind
invariant-loop-kind l = Counting l.phase.kind l.kind-items l.found l.kind-index
