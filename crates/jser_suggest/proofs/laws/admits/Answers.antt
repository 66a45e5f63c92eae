use Rattle.jser_suggest.proofs.LawLemmas as laws
use Rattle.jser_suggest.proofs.laws.admits.Goals as goal

pub returns : goal.returns
returns c = laws.admits
