use Rattle.jser_printer.proofs.SaysLemmas.{says_three}
use Rattle.jser_printer.proofs.words.section.write_class_section.Goals as goal

pub returns : goal.returns
returns g c = says_three _ _ _ _ _ _ _ _ _ _ _ c.write_line_start.ensures c.write.ensures c.write_name_line.ensures
