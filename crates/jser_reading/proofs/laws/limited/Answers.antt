use Rattle.jser_reading.proofs.WithinLimits.{limited_law}
use Rattle.jser_reading.proofs.laws.limited.Goals as goal

pub returns : goal.returns
returns c = limited_law
