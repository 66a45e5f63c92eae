use Rattle.jser_reader.proofs.ItemLaws.{tokens_begin_streams_law}
use Rattle.jser_reader.proofs.laws.tokens_begin_streams.Goals as goal

pub returns : goal.returns
returns c = tokens_begin_streams_law
