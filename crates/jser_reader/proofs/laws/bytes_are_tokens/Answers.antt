use Rattle.jser_reader.proofs.ItemLaws.{bytes_are_tokens_law}
use Rattle.jser_reader.proofs.laws.bytes_are_tokens.Goals as goal

pub returns : goal.returns
returns c = bytes_are_tokens_law
