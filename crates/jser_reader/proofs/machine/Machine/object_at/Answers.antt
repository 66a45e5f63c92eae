use Rattle.std.proofs.Common.{arith, rules}
use Rattle.jser_reader.proofs.ManyBare.{object_begins_here}
use Rattle.jser_reader.proofs.machine.Machine.object_at.Goals as goal

pub external_object-requires-clause-begins : goal.external_object-requires-clause-begins
external_object-requires-clause-begins c =
    object_begins_here c.args.piece.now c.in-Some.n c.in-Ok.chain _ _ c.requires.holds (c.has_place_at.ensures.place (search rules)) c.requires.room c.requires.tag c.in-Some.ensures
    (omega arith) c.in-Ok.ensures.is

pub bare_object-requires-clause-begins : goal.bare_object-requires-clause-begins
bare_object-requires-clause-begins c =
    object_begins_here c.args.piece.now c.in-Some.n c.in-Ok.chain _ _ c.requires.holds (c.has_place_at.ensures.place (search rules)) c.requires.room c.requires.tag c.in-Some.ensures
    (omega arith) c.in-Ok.ensures.is
