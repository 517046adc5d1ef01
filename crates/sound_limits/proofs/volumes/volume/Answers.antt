-- `volumes::volume` meets its contract: the volume of the objects listed is the sum of their lengths.
use mathlib.Core.Path.{sym, ◌∙◌}
use Rattle.sound_limits.proofs.Listed.{volume_listed}
use borrow.Author.Rules.{rules}
use Rattle.sound_limits.proofs.volumes.volume.Goals as goal

pub returns : goal.returns
returns c = λ names places. c.sum_of.ensures ∙ sym (volume_listed names places c.args.lens.now 0 _ (search rules))
