use Rattle.jser_reading.proofs.OneReading.{one_reading_law}
use Rattle.jser_reading.proofs.laws.one_reading.Goals as goal

pub returns : goal.returns
returns c = one_reading_law
