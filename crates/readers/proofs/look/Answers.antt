-- `readers::look` meets its contract: a `Reader` that `open` returns is passed to `find`, and what both say together is the list's answer: `opened_finds`.
use mathlib.Core.Path.{ap, ◌∙◌}
use Rattle.readers.specs.Readers.{found_by}
use Rattle.readers.specs.declared.Reader.{Reader}
use Rattle.readers.proofs.Asked.{opened_finds}
use Rattle.readers.proofs.look.Goals as goal

pub returns : goal.returns
returns c =
    let args = c.args in
    c.find.ensures ∙ (ap (λ (x : Reader). found_by x args.name.0) c.open.ensures ∙ opened_finds args.area args.bytes.now args.name.0)
