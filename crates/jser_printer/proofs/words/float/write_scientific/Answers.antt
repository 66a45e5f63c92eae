use Rattle.jser_printer.proofs.FloatLemmas.{says_between}
use Rattle.jser_printer.proofs.words.float.write_scientific.Goals as goal

pub returns : goal.returns
returns g c = says_between _ _ _ _ _ _ _ _ _ _ 0x45 c.write_with_point.ensures c.write.ensures c.write_exponent.ensures
