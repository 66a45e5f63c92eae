use Rattle.jser_verdict.proofs.ForGood as laws
use Rattle.jser_verdict.proofs.laws.refused_for_good.Goals as goal

pub returns : goal.returns
returns c = laws.refused_for_good
