use Rattle.std.proofs.Common.{refl, rules}
use Rattle.jser_reader.proofs.ManyBare.{external_turn}
use Rattle.jser_reader.proofs.ManyObjects.{not_opened, was_opened}
use Rattle.jser_reader.proofs.ManyPlain.{nothing_done}
use Rattle.jser_reader.proofs.machine.Machine.external_object.Goals as goal

pub returns-then-not-open_frame : goal.returns-then-not-open_frame
returns-then-not-open_frame c = nothing_done c.args.piece.now _ _ _ _ (not_opened _ _ _ _ c.open_frame.ensures (search rules)) refl

pub returns : goal.returns
returns c =
    external_turn c.args.piece.now c.args.n c.args.chain _ _ _ _ _ c.requires.begins c.requires.external (was_opened _ _ _ _ c.open_frame.ensures (search rules)) c.place.ensures
    c.«open».ensures
