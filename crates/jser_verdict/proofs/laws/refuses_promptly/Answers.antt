use Rattle.jser_verdict.proofs.WalkFaults as laws
use Rattle.jser_verdict.proofs.laws.refuses_promptly.Goals as goal

pub returns : goal.returns
returns c = laws.refuses_promptly
