use Rattle.jser_shown.proofs.TreeToText.{told_law}
use Rattle.jser_shown.proofs.laws.told.Goals as goal

pub returns : goal.returns
returns c = told_law
