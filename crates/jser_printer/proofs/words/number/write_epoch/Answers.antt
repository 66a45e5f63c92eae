use Rattle.std.proofs.Common.{rules}
use Rattle.jser_printer.proofs.SaysLemmas.{says_first_epoch}
use Rattle.jser_printer.proofs.words.number.write_epoch.Goals as goal

pub returns-in-0 : goal.returns-in-0
returns-in-0 g c = says_first_epoch _ _ _ _ c.args.epoch (search rules) c.write.ensures
