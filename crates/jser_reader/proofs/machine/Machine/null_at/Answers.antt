use Rattle.std.proofs.Common.{rules}
use Rattle.jser_reader.proofs.ManyPlain.{null_turn}
use Rattle.jser_reader.proofs.machine.Machine.null_at.Goals as goal

pub returns : goal.returns
returns c = null_turn c.args.piece.now _ _ _ c.requires.holds c.requires.room c.requires.tag (c.has_place_at.ensures.place (search rules)) c.place.ensures
