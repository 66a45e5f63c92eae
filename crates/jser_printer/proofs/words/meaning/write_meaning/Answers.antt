use Rattle.jser_printer.proofs.MeaningLemmas.{says_untyped}
use Rattle.jser_printer.proofs.words.meaning.write_meaning.Goals as goal

pub returns-in-None : goal.returns-in-None
returns-in-None g c = says_untyped _ _ c.args.primitive c.args.bytes.now c.in-None.is
