use Rattle.std.proofs.Common.{refl, arith}
use Rattle.jser_reader.proofs.WholeLemmas.{has_text}
use Rattle.jser_reader.proofs.machine.wholes.text_after.Goals as goal

pub returns-in-Ok : goal.returns-in-Ok
returns-in-Ok c =
    has_text c.read_u16-len.result c.args.piece.now _ _ _ _ _ _ (omega (arith, c.if-piece-lt3.false)) c.split_at.ensures.back c.split_at-2.ensures.front
    c.split_at-2.ensures.back c.split_at-3.ensures.front c.read_u16-len.ensures (omega (arith, c.if-rest-len.false)) (omega arith) c.new-scan.ensures.accepted
    c.in-Ok.ensures.accepts refl
