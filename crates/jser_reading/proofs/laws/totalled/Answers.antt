use Rattle.jser_reading.proofs.TotalsObserved.{totalled_law}
use Rattle.jser_reading.proofs.laws.totalled.Goals as goal

pub returns : goal.returns
returns c = totalled_law
