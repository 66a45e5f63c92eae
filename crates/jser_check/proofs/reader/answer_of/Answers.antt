use Rattle.jser_check.proofs.SourceLemmas.{answered_whole, answered_fault}
use Rattle.jser_check.proofs.reader.answer_of.Goals as goal

pub returns-in-Ok-clause-answers : goal.returns-in-Ok-clause-answers
returns-in-Ok-clause-answers g c =
    answered_whole c.args.check.now c.read_whole.new.check _ _ c.finish.result c.in-Ok.ensures.asks c.in-Ok.ensures.tells c.finish.ensures.tells

pub returns-in-Err-clause-answers : goal.returns-in-Err-clause-answers
returns-in-Err-clause-answers g c =
    answered_fault c.args.check.now c.read_whole.new.check _ _ c.in-Err.fault c.in-Err.ensures.asks c.in-Err.ensures.tells
