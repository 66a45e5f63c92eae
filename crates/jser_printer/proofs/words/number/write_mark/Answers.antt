use Rattle.jser_printer.proofs.SaysLemmas.{says_both}
use Rattle.jser_printer.proofs.words.number.write_mark.Goals as goal

pub returns : goal.returns
returns g c = says_both _ _ _ _ _ _ _ _ c.write_epoch.ensures c.write_handle.ensures
