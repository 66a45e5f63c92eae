use Rattle.jser_verdict.proofs.AnswerLaws as laws
use Rattle.jser_verdict.proofs.laws.refuses_first_fault.Goals as goal

pub returns : goal.returns
returns c = laws.refuses_first_fault
