use Rattle.std.proofs.Common.{rules}
use Rattle.jser_reader.proofs.ManyObjects.{reference_is}
use Rattle.jser_reader.proofs.machine.many.objects.reference_at.Goals as goal

pub returns : goal.returns
returns c = reference_is c.args.piece.now c.args.at _ c.requires (search rules) c.number_in.ensures
