use Rattle.jser_reading.proofs.SpelledTokens.{spelled_law}
use Rattle.jser_reading.proofs.laws.spelled.Goals as goal

pub returns : goal.returns
returns c = spelled_law
