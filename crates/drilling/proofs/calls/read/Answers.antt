-- `calls::read` meets its contract: the part lent is the first bytes of the area, and the page read is no longer.
use borrow.Author.Rules.{rules}
use mathlib.Core.Path.{ap, ◌∙◌}
use Rattle.rules.specs.House.{most_area}
use Rattle.rules.specs.Answers.{number_of}
use Rattle.store.specs.Served.{model}
use Rattle.leaves.proofs.Parts.{part_lent}
use Rattle.drilling.proofs.Serving.{read_short, page_said}
use Rattle.drilling.proofs.calls.read.Goals as goal

pub sum_of-requires : goal.sum_of-requires
sum_of-requires c = rw c.read-page.ensures.bytes (read_short _ _ _ _ most_area (search rules) (search rules))

pub returns : goal.returns
returns c =
    let a = c.args in
    λ buf. page_said (model a.desk.store) _ _ _ a.name _ _
    (part_lent a.area.now a.desk.lent c.min.result c.min.ensures).0
    (c.from.ensures ∙ ap number_of c.read_answer-answer.ensures) c.read-page.ensures.bytes
    c.sum_of.ensures
