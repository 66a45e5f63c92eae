use Rattle.std.proofs.Common.{rules}
use Rattle.jser_grammar.specs.Codes.{long_code}
use Rattle.jser_printer.proofs.MeaningLemmas.{says_other_size, says_long}
use Rattle.jser_printer.proofs.words.meaning.write_long.Goals as goal

pub returns-then-bytes-eq8 : goal.returns-then-bytes-eq8
returns-then-bytes-eq8 g c = says_long _ _ _ _ c.args.bytes.now _ (search rules) (search rules) c.read_u64.ensures c.write_signed.ensures

pub returns-else-bytes-eq8 : goal.returns-else-bytes-eq8
returns-else-bytes-eq8 g c = says_other_size _ _ long_code c.args.bytes.now (search rules)
