use Rattle.std.proofs.Common.{refl, arith}
use Rattle.jser_printer.proofs.MeaningLemmas.{says_negative}
use Rattle.jser_printer.proofs.words.meaning.write_number.Goals as goal

pub returns-else-number-least : goal.returns-else-number-least
returns-else-number-least g c =
    says_negative _ _ _ _ _ _ c.args.least c.args.number _ (omega (arith, c.if-number-least.false)) refl c.write.ensures c.write_decimal-else-number-least.ensures
