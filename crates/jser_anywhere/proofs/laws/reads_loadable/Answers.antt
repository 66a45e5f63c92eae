use Rattle.jser_anywhere.proofs.LoadableLemmas as laws
use Rattle.jser_anywhere.proofs.laws.reads_loadable.Goals as goal

pub returns : goal.returns
returns c = laws.reads_loadable
