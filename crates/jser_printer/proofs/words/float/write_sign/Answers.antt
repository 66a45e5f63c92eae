use Rattle.jser_printer.proofs.FloatLemmas.{says_not_a_number}
use Rattle.jser_printer.proofs.words.float.write_sign.Goals as goal

pub returns-in-NotANumber : goal.returns-in-NotANumber
returns-in-NotANumber g c = says_not_a_number _ _ _ _ c.in-NotANumber.is
