-- `read_answer` meets its contract: it is the answer of the tests, turned back.
use mathlib.Core.Path.{◌∙◌}
use Rattle.refusals.proofs.Firsts.{turned_back, refusal_handed}
use Rattle.asking.proofs.Telling.{reads}
use Rattle.asking.proofs.read_answer.Goals as goal

pub returns : goal.returns
returns c = c.unwrap_or.ensures ∙ rw (c.err.ensures.value, refusal_handed c.read_answer.result, c.read_answer.ensures) (turned_back _ _ ∙ reads _ _ _)
