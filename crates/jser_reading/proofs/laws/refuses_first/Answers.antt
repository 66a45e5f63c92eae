use Rattle.jser_reading.proofs.Faults.{refuses_law}
use Rattle.jser_reading.proofs.laws.refuses_first.Goals as goal

pub returns : goal.returns
returns c = refuses_law
