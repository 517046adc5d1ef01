-- `to_rest::turn` meets its contract: it steps, confirms where the step says that a checkpoint is due, and tells what it did,
-- as the turn of the rules does.
use Rattle.store.specs.Served.{model}
use Rattle.to_rest.proofs.Onward.{turn_confirms, turn_idles, turn_moves}
use Rattle.to_rest.proofs.turn.Goals as goal

pub returns-in-CheckpointDue : goal.returns-in-CheckpointDue
returns-in-CheckpointDue c =
    let t = c.step-t in
    turn_confirms _ (model t.result.store) _ _ _ t.ensures.answer_value t.ensures.store_value t.ensures.area_after _ c.in-CheckpointDue.is c.confirmed.ensures

pub returns-in-Running : goal.returns-in-Running
returns-in-Running c =
    let t = c.step-t in
    turn_moves _ (model t.result.store) _ _ _ t.ensures.answer_value t.ensures.store_value t.ensures.area_after c.in-Running.is

pub returns-in_default : goal.returns-in_default
returns-in_default c =
    let t = c.step-t in
    turn_idles _ (model t.result.store) _ _ _ t.ensures.answer_value t.ensures.store_value t.ensures.area_after c.in_default.not-CheckpointDue
    c.in_default.not-Running
