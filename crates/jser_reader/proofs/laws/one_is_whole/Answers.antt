use Rattle.jser_reader.proofs.WholeContentLemmas.{one_whole_law}
use Rattle.jser_reader.proofs.laws.one_is_whole.Goals as goal

pub returns : goal.returns
returns c = one_whole_law
