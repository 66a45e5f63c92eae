use Rattle.jser_reading.proofs.Next.{next_law}
use Rattle.jser_reading.proofs.laws.next_is_told.Goals as goal

pub returns : goal.returns
returns c = next_law
