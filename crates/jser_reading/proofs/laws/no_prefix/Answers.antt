use Rattle.jser_reading.proofs.OneReading.{no_prefix_law}
use Rattle.jser_reading.proofs.laws.no_prefix.Goals as goal

pub returns : goal.returns
returns c = no_prefix_law
