use Rattle.jser_suggest.proofs.WritableLemmas as laws
use Rattle.jser_suggest.proofs.laws.only_writable.Goals as goal

pub returns : goal.returns
returns c = laws.only_writable
