use Rattle.jser_printer.proofs.SaysLemmas.{says_three}
use Rattle.jser_printer.proofs.words.value.write_element_index.Goals as goal

pub returns : goal.returns
returns g c = says_three _ _ _ _ _ _ _ _ _ _ _ c.write.ensures c.write_decimal.ensures c.write-2.ensures
