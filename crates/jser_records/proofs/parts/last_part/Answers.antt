use Rattle.jser_records.proofs.FieldLemmas.{last_all, last_behind}
use Rattle.jser_records.proofs.parts.last_part.Goals as goal

pub returns-in-Some-clause-value : goal.returns-in-Some-clause-value
returns-in-Some-clause-value c = last_behind c.args.line.now c.in-Some.at c.in-Some.ensures

pub returns-in-None-clause-value : goal.returns-in-None-clause-value
returns-in-None-clause-value c = last_all c.args.line.now c.in-None.ensures
