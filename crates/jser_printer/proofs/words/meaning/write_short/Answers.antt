use Rattle.std.proofs.Common.{rules}
use Rattle.jser_grammar.specs.Codes.{short_code}
use Rattle.jser_printer.proofs.MeaningLemmas.{says_other_size, says_short}
use Rattle.jser_printer.proofs.words.meaning.write_short.Goals as goal

pub returns-then-bytes-eq2 : goal.returns-then-bytes-eq2
returns-then-bytes-eq2 g c = says_short _ _ _ _ c.args.bytes.now _ (search rules) (search rules) c.read_u16.ensures c.write_signed.ensures

pub returns-else-bytes-eq2 : goal.returns-else-bytes-eq2
returns-else-bytes-eq2 g c = says_other_size _ _ short_code c.args.bytes.now (search rules)
