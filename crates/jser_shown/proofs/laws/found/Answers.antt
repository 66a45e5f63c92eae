use Rattle.jser_shown.proofs.TreeToFinding.{found_law}
use Rattle.jser_shown.proofs.laws.found.Goals as goal

pub returns : goal.returns
returns c = found_law
