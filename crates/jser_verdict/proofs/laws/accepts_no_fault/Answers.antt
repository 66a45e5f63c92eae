use Rattle.jser_verdict.proofs.AnswerLaws as laws
use Rattle.jser_verdict.proofs.laws.accepts_no_fault.Goals as goal

pub returns : goal.returns
returns c = laws.accepts_no_fault
