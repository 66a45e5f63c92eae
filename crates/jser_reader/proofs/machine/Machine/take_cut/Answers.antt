use Rattle.std.proofs.Common.{rules}
use Rattle.jser_reader.proofs.CutLemmas.{cut_kept}
use Rattle.jser_reader.proofs.machine.Machine.take_cut.Goals as goal

pub returns-then-piece-missing : goal.returns-then-piece-missing
returns-then-piece-missing g c =
    cut_kept _ c.missing-missing.result c.args.piece.now c.args.self.now _ c.keep_more.ensures (search rules) (search rules) c.requires.phase (search rules) c.requires.some
    c.if-piece-missing.true
