use Rattle.jser_names.proofs.WholeLemmas.{ended}
use Rattle.jser_names.proofs.whole.ReaderOpenGateTaker.end.Goals as goal

pub returns : goal.returns
returns c = ended c.finish.result c.args.self.machine c.args.self.tally c.finish.new.self.machine c.finish.ensures.tells
