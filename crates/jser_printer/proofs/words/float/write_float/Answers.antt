use Rattle.jser_printer.proofs.FloatLemmas.{says_joined}
use Rattle.jser_printer.proofs.words.float.write_float.Goals as goal

pub returns : goal.returns
returns g c = says_joined _ _ _ _ _ _ _ _ c.write_sign.ensures c.write_magnitude.ensures
