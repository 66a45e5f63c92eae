use Rattle.jser_printer.proofs.SaysLemmas.{says_both}
use Rattle.jser_printer.proofs.words.quote.write_text_line.Goals as goal

pub returns : goal.returns
returns g c = says_both _ _ _ _ _ _ _ _ c.write_text.ensures c.write.ensures
