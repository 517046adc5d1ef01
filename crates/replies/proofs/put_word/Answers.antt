-- `replies::put_word` meets its contract: there is room for the dash or the digits.
use borrow.Author.Rules.{rules}
use Rattle.replies.proofs.Replying.{hex_front}
use Rattle.replies.proofs.put_word.Goals as goal

pub returns : goal.returns
returns c =
    let args = c.args in
    hex_front args.line.now args.bytes.now args.at _ _ c.requires
    (search rules) c.put_hex.ensures
