use Rattle.std.proofs.Common.{rules, arith}
use Rattle.jser_reader.proofs.PlainTextLemmas.{plain_text}
use Rattle.jser_reader.proofs.machine.wholes.plain_text_after.Goals as goal

pub returns : goal.returns
returns c =
    plain_text c.read_u16-len.result c.args.piece.now _ _ (omega (arith, c.if-piece-lt3.false)) c.split_at.ensures.back c.split_at-2.ensures.front c.read_u16-len.ensures
    (omega arith) (search rules) (search rules)
