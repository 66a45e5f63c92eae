use Rattle.std.proofs.Common.{rules}
use Rattle.jser_printer.proofs.SaysLemmas.{says_suid}
use Rattle.jser_printer.proofs.words.descriptor.write_suid_word.Goals as goal

pub returns : goal.returns
returns g c = says_suid _ _ _ _ _ _ _ c.args.suid c.write.ensures c.write_hex.ensures (search rules)
