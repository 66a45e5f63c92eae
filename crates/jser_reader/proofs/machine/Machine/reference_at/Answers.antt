use Rattle.std.proofs.Common.{arith, rules}
use Rattle.jser_reader.proofs.ManyPlain.{back_turn}
use Rattle.jser_reader.proofs.RuleLemmas.{assigned}
use Rattle.jser_reader.proofs.machine.Machine.reference_at.Goals as goal

pub returns : goal.returns
returns c =
    back_turn c.args.piece.now c.number_at-n.result _ _ _ c.requires.holds c.requires.room c.requires.tag c.number_at-n.ensures (omega arith) (assigned _ _ c.is_assigned.ensures (search rules))
    (c.has_place_at.ensures.place (search rules)) c.place.ensures
