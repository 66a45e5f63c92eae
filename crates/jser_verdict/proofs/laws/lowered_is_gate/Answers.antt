use Rattle.jser_verdict.proofs.Passing as laws
use Rattle.jser_verdict.proofs.laws.lowered_is_gate.Goals as goal

pub returns : goal.returns
returns c = laws.lowered_is_gate
