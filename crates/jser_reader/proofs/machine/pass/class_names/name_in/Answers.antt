use Rattle.std.proofs.Common.{rules, arith}
use Rattle.jser_reader.proofs.NameSteps.{plain_name}
use Rattle.jser_reader.proofs.machine.pass.class_names.name_in.Goals as goal

pub returns : goal.returns
returns c =
    plain_name c.read_u16-len.result c.args.piece.now _ (omega (arith, c.if-piece-lt2.false)) c.split_at.ensures.front c.read_u16-len.ensures
    (omega arith) (search rules) (search rules)
