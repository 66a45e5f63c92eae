use Rattle.jser_suggest.proofs.LawLemmas as laws
use Rattle.jser_suggest.proofs.laws.is_least.Goals as goal

pub returns : goal.returns
returns c = laws.is_least
