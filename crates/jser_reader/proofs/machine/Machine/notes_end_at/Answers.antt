use Rattle.std.proofs.Common.{rules}
use Rattle.jser_reader.proofs.ManyNotes.{external_done}
use Rattle.jser_reader.proofs.machine.Machine.notes_end_at.Goals as goal

pub returns-in-ExternalNotes : goal.returns-in-ExternalNotes
returns-in-ExternalNotes c = external_done c.args.piece.now _ _ _ _ c.requires.holds c.requires.room c.requires.tag (search rules) c.drop_frame.ensures c.close.ensures
