use Rattle.jser_records.proofs.ReadingLemmas.{undecided_for}
use Rattle.jser_records.proofs.current.Record.finish.Goals as goal

pub returns-in-Err-clause-right : goal.returns-in-Err-clause-right
returns-in-Err-clause-right c = λ value came. undecided_for c.args.self.now.reading.judge.rules c.args.self.now.reading.most _ value
