use Rattle.jser_reader.proofs.ManyPlain.{number_is}
use Rattle.jser_reader.proofs.machine.many.plain.number_at.Goals as goal

pub returns : goal.returns
returns c = number_is c.args.piece.now c.args.at _ c.requires c.number_in.ensures
