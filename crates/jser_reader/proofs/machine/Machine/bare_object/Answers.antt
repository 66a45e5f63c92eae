use Rattle.std.proofs.Common.{refl, rules}
use Rattle.jser_reader.proofs.WholeLemmas.{no_other}
use Rattle.jser_reader.proofs.ManyBare.{bare_turn}
use Rattle.jser_reader.proofs.ManyObjects.{was_assigned}
use Rattle.jser_reader.proofs.ManyPlain.{nothing_done}
use Rattle.jser_reader.proofs.machine.Machine.bare_object.Goals as goal

pub returns-then-not-assign_other : goal.returns-then-not-assign_other
returns-then-not-assign_other c = nothing_done c.args.piece.now _ _ _ _ (no_other _ _ _ c.assign_other.ensures (search rules)) refl

pub returns : goal.returns
returns c =
    bare_turn c.args.piece.now c.args.n c.args.chain _ _ _ _ c.requires.begins c.requires.plain c.requires.none (was_assigned _ _ _ c.assign_other.ensures (search rules)) c.place.ensures
