use Rattle.jser_suggest.proofs.LawLemmas as laws
use Rattle.jser_suggest.proofs.laws.allows_only.Goals as goal

pub returns : goal.returns
returns c = laws.allows_only
