use Rattle.jser_verdict.proofs.WalkFaults as laws
use Rattle.jser_verdict.proofs.laws.over_is_the_first.Goals as goal

pub returns : goal.returns
returns c = laws.over_is_the_first
