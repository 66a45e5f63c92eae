use Rattle.jser_anywhere.proofs.StageLemmas as laws
use Rattle.jser_anywhere.proofs.laws.names_are_in_rows.Goals as goal

pub returns : goal.returns
returns c = laws.names_are_in_rows
