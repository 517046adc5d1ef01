-- `texts::put_hex` meets its contract: bytes whose digits do not fit are not put.
use Prim.Native.Nat.{◌*◌}
use native.Mathlib.Omega.{arith}
use lib.ListN.{length}
use Rattle.texts.specs.Numbers.{hex_of}
use Rattle.texts.proofs.Digits.{hex_long}
use Rattle.texts.proofs.Putting.{put_none, room_not}
use Rattle.texts.proofs.put_hex.Goals as goal

pub returns-then-room-n : goal.returns-then-room-n
returns-then-room-n c =
    let args = c.args in
    put_none args.out.now (hex_of args.text.now) args.at (omega (arith, hex_long args.text.now))

pub returns-then-not-fits : goal.returns-then-not-fits
returns-then-not-fits c =
    let args = c.args in
    put_none args.out.now (hex_of args.text.now) args.at (omega (
      arith,
      room_not c.fits.result (length args.out.now) args.at (2 * length args.text.now) c.fits.ensures c.if-not-fits.true,
      hex_long args.text.now,
    ))
