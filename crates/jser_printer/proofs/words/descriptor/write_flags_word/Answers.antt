use Rattle.jser_printer.proofs.SaysLemmas.{says_both}
use Rattle.jser_printer.proofs.words.descriptor.write_flags_word.Goals as goal

pub returns : goal.returns
returns g c = says_both _ _ _ _ _ _ _ _ c.write.ensures c.write_raw.ensures
