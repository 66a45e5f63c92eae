use Rattle.jser_printer.proofs.SaysLemmas.{says_quoted}
use Rattle.jser_printer.proofs.words.quote.write_quoted.Goals as goal

pub returns : goal.returns
returns g c = says_quoted _ _ _ _ _ _ _ _ c.args.units.now c.write.ensures c.write_units.ensures c.write-2.ensures
