use Rattle.jser_printer.proofs.FloatLemmas.{exponent_below, says_as, says_minus}
use Rattle.jser_printer.proofs.words.float.write_exponent.Goals as goal

pub returns-then-point-lt345 : goal.returns-then-point-lt345
returns-then-point-lt345 g c =
    says_as _ _ _ _ _ _ (exponent_below c.args.point c.if-point-lt345.true) (says_minus _ _ _ _ _ _ _ c.write.ensures c.write_decimal.ensures)
