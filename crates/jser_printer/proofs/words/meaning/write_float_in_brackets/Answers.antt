use Rattle.jser_printer.proofs.MeaningLemmas.{says_bracketed}
use Rattle.jser_printer.proofs.words.meaning.write_float_in_brackets.Goals as goal

pub returns : goal.returns
returns g c = says_bracketed _ _ _ _ _ _ _ _ _ c.write.ensures c.write_float.ensures c.write-2.ensures
