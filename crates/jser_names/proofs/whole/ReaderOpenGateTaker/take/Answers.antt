use Rattle.jser_names.proofs.WholeLemmas.{skipped}
use Rattle.jser_names.proofs.whole.ReaderOpenGateTaker.take.Goals as goal

pub returns : goal.returns
returns c =
    skipped c.args.piece.now c.skip.result c.args.self.now.machine c.args.self.now.tally c.skip.new.self.machine c.skip.new.self.tally c.skip.ensures.tells
