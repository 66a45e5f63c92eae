use Rattle.std.proofs.Common.{arith, rules}
use Rattle.jser_reader.proofs.ManyNotes.{block_turn}
use Rattle.jser_reader.proofs.machine.Machine.block_at.Goals as goal

pub returns : goal.returns
returns c =
    let within = c.requires.holds.holds.within in
    block_turn c.args.piece.now _ _ _ _ c.requires.holds c.requires.room c.requires.tag (search rules) (omega arith) (search rules) c.block.ensures
