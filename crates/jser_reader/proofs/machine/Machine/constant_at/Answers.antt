use Rattle.std.proofs.Common.{arith, refl, rules}
use Rattle.jser_reader.proofs.WholeLemmas.{no_other}
use Rattle.jser_reader.proofs.ManyConstants.{constant_begins, constant_turn}
use Rattle.jser_reader.proofs.ManyObjects.{was_assigned}
use Rattle.jser_reader.proofs.ManyPlain.{nothing_done}
use Rattle.jser_reader.proofs.machine.Machine.constant_at.Goals as goal

pub returns-then-not-assign_other : goal.returns-then-not-assign_other
returns-then-not-assign_other c = nothing_done c.args.piece.now _ _ _ _ (no_other _ _ _ c.assign_other.ensures (search rules)) refl

pub returns : goal.returns
returns c =
    constant_turn c.args.piece.now c.in-Some.n c.in-Some-reference_at.name c.in-Ok.field-0 _ _ _ _
    (constant_begins c.args.piece.now c.in-Some.n c.in-Some-reference_at.name c.in-Ok.field-0 _ _ c.requires.holds (c.has_place_at.ensures.place (search rules)) (search rules) (omega (arith, c.requires.room)) c.requires.tag
    c.in-Some.ensures (omega arith) c.in-Ok.ensures.is c.in-Some-reference_at.ensures (omega arith) (c.text_fault.ensures.text (search rules)))
    (was_assigned _ _ _ c.assign_other.ensures (search rules)) c.place.ensures
