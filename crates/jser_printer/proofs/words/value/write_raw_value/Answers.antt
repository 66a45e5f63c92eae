use Rattle.jser_printer.proofs.SaysLemmas.{says_three}
use Rattle.jser_printer.proofs.words.value.write_raw_value.Goals as goal

pub returns : goal.returns
returns g c = says_three _ _ _ _ _ _ _ _ _ _ _ c.write_hex.ensures c.write_word.ensures c.write.ensures
