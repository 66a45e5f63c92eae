use Rattle.jser_verdict.proofs.WalkFaults as laws
use Rattle.jser_verdict.proofs.laws.decides_alone.Goals as goal

pub returns : goal.returns
returns c = laws.decides_alone
