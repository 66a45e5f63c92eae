use Rattle.jser_shown.proofs.CountLemmas.{counted_law}
use Rattle.jser_shown.proofs.laws.counted.Goals as goal

pub returns : goal.returns
returns c = counted_law
