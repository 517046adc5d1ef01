-- `texts::put_number` meets its contract: a number whose digits do not fit is not put.
use native.Mathlib.Omega.{arith}
use lib.ListN.{length}
use Rattle.texts.specs.Numbers.{decimal, width_in}
use Rattle.texts.proofs.Digits.{digits_long}
use Rattle.texts.proofs.Putting.{put_none, room_not}
use Rattle.texts.proofs.put_number.Goals as goal

pub returns-then-not-fits : goal.returns-then-not-fits
returns-then-not-fits c =
    let args = c.args in
    put_none _ (decimal _) _ (omega (
      arith,
      room_not _ (length args.out.now) _ _ c.fits.ensures c.if-not-fits.true,
      digits_long (width_in 19 args.n) args.n,
      c.width_of-width.ensures,
    ))
