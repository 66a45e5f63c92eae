use Rattle.jser_reading.proofs.Told.{tokens_told_law}
use Rattle.jser_reading.proofs.laws.tokens_are_told.Goals as goal

pub returns : goal.returns
returns c = tokens_told_law
