use Rattle.jser_check.proofs.JudgedLemmas as laws
use Rattle.jser_check.proofs.laws.names_are_judged.Goals as goal

pub returns : goal.returns
returns c = laws.names_are_judged
