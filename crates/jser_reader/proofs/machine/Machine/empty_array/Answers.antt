use Rattle.std.proofs.Common.{refl, rules}
use Rattle.jser_reader.proofs.WholeLemmas.{no_other}
use Rattle.jser_reader.proofs.ManyArrays.{empty_turn}
use Rattle.jser_reader.proofs.ManyObjects.{was_assigned}
use Rattle.jser_reader.proofs.ManyPlain.{nothing_done}
use Rattle.jser_reader.proofs.machine.Machine.empty_array.Goals as goal

pub returns-then-not-assign_other : goal.returns-then-not-assign_other
returns-then-not-assign_other c = nothing_done c.args.piece.now _ _ _ _ (no_other _ _ _ c.assign_other.ensures (search rules)) refl

pub returns : goal.returns
returns c =
    empty_turn c.args.piece.now c.args.n c.args.chain 0 _ _ _ _ c.requires.begins refl (was_assigned _ _ _ c.assign_other.ensures (search rules)) c.place.ensures
