-- `texts::width_of` meets its contract: a number between two powers of ten has as many digits as the greater one has zeros.
use native.Mathlib.Omega.{arith}
use Rattle.texts.proofs.Digits.{width_between}
use Rattle.texts.proofs.width_of.Goals as goal

pub returns : goal.returns
returns c =
    let log = c.ilog10 in
    width_between 19 log.result c.args.n (omega arith) (omega (arith, log.ensures.power_le, c.max.ensures))
    (omega (arith, log.ensures.next_power_gt, c.max.ensures))
