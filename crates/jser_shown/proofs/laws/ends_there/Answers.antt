use Rattle.jser_shown.proofs.TreeToEnd.{ends_there_law}
use Rattle.jser_shown.proofs.laws.ends_there.Goals as goal

pub returns : goal.returns
returns c = ends_there_law
