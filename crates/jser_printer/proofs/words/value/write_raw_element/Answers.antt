use Rattle.jser_printer.proofs.SaysLemmas.{says_three}
use Rattle.jser_printer.proofs.words.value.write_raw_element.Goals as goal

pub returns : goal.returns
returns g c = says_three _ _ _ _ _ _ _ _ _ _ _ c.write_line_start.ensures c.write_element_index.ensures c.write_raw_value.ensures
