use Rattle.jser_shown.proofs.Fronts.{one_more_law}
use Rattle.jser_shown.proofs.laws.one_more.Goals as goal

pub returns : goal.returns
returns c = one_more_law
