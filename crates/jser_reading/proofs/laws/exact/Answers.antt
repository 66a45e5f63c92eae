use Rattle.jser_reading.proofs.Exact.{exact_law}
use Rattle.jser_reading.proofs.laws.exact.Goals as goal

pub returns : goal.returns
returns c = exact_law
