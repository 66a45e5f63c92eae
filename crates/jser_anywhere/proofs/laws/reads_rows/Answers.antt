use Rattle.jser_anywhere.proofs.LooseLemmas as laws
use Rattle.jser_anywhere.proofs.laws.reads_rows.Goals as goal

pub returns : goal.returns
returns c = laws.reads_rows
