-- `calls::answer` meets its contract: the line put is that of what the request is answered.
use Rattle.drilling.proofs.calls.answer.Goals as goal

pub returns : goal.returns
returns c =
    let turn-said = c.turn-t.ensures in
    let put = rw turn-said.reply at c.put_reply.ensures in
    record { area_after = turn-said.desk; end_value = put.value; out_after = put.out_after }
