use Rattle.jser_verdict.proofs.OneFault as laws
use Rattle.jser_verdict.proofs.laws.one_first_fault.Goals as goal

pub returns : goal.returns
returns c = laws.one_first_fault
