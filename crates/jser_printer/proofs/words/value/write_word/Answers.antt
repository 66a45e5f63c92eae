use Rattle.jser_printer.proofs.MeaningLemmas.{says_no_word}
use Rattle.jser_printer.proofs.words.value.write_word.Goals as goal

pub returns-in-false : goal.returns-in-false
returns-in-false g c = says_no_word _ _ c.args.values _ c.args.bytes.now c.in-false.is
