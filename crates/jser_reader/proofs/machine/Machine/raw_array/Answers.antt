use Rattle.std.proofs.Common.{◌*◌, ap₂, arith, refl, rules}
use Rattle.jser_reader.proofs.WholeLemmas.{no_other}
use Rattle.jser_reader.proofs.ManyArrays.{raw_turn, some_bytes}
use Rattle.jser_reader.proofs.ManyObjects.{was_assigned}
use Rattle.jser_reader.proofs.ManyPlain.{nothing_done}
use Rattle.jser_reader.proofs.machine.Machine.raw_array.Goals as goal

pub returns-then-not-assign_other : goal.returns-then-not-assign_other
returns-then-not-assign_other c = nothing_done c.args.piece.now _ _ _ _ (no_other _ _ _ c.assign_other.ensures (search rules)) refl

pub returns : goal.returns
returns c =
    let room = c.requires.begins.room in
    raw_turn c.args.piece.now c.args.n c.args.chain c.args.count c.args.size (c.from.result * c.from-2.result) _ _ _ _ c.requires.begins c.requires.some c.requires.elements
    (ap₂ (λ a b. a * b) (search rules) (search rules)) (some_bytes _ (search rules)) (omega arith) (was_assigned _ _ _ c.assign_other.ensures (search rules)) c.place.ensures
