use Rattle.jser_shown.proofs.Fronts.{tells_fronts_law}
use Rattle.jser_shown.proofs.laws.tells_fronts.Goals as goal

pub returns : goal.returns
returns c = tells_fronts_law
