use Rattle.jser_anywhere.proofs.NamedLemmas.{all_are_named, names_stand}
use Rattle.jser_anywhere.proofs.laws.names_are_all.Goals as goal

pub returns-clause-stand : goal.returns-clause-stand
returns-clause-stand c = names_stand

pub returns-clause-all : goal.returns-clause-all
returns-clause-all c = all_are_named
