use Rattle.std.proofs.Common.{rules}
use Rattle.jser_printer.proofs.MeaningLemmas.{says_no_truth}
use Rattle.jser_printer.proofs.words.meaning.write_truth.Goals as goal

pub returns-else-byte-eq1 : goal.returns-else-byte-eq1
returns-else-byte-eq1 g c = says_no_truth _ _ c.args.byte (search rules) (search rules)
