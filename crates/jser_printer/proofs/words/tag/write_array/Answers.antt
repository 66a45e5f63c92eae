use Rattle.jser_printer.proofs.SaysLemmas.{says_three}
use Rattle.jser_printer.proofs.words.tag.write_array.Goals as goal

pub returns : goal.returns
returns g c = says_three _ _ _ _ _ _ _ _ _ _ _ c.write_owner.ensures c.write_decimal.ensures c.write.ensures
