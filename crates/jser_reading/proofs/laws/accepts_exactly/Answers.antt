use Rattle.jser_reading.proofs.Faults.{accepts_law}
use Rattle.jser_reading.proofs.laws.accepts_exactly.Goals as goal

pub returns : goal.returns
returns c = accepts_law
