use Rattle.jser_reading.proofs.Faults.{cut_short_law}
use Rattle.jser_reading.proofs.laws.cut_short.Goals as goal

pub returns : goal.returns
returns c = cut_short_law
