use Rattle.jser_shown.proofs.Fronts.{finds_fronts_law}
use Rattle.jser_shown.proofs.laws.finds_fronts.Goals as goal

pub returns : goal.returns
returns c = finds_fronts_law
