use Rattle.std.proofs.Common.{rules}
use Rattle.jser_grammar.specs.Codes.{int_code}
use Rattle.jser_printer.proofs.MeaningLemmas.{says_other_size, says_int}
use Rattle.jser_printer.proofs.words.meaning.write_int.Goals as goal

pub returns-then-bytes-eq4 : goal.returns-then-bytes-eq4
returns-then-bytes-eq4 g c = says_int _ _ _ _ c.args.bytes.now _ (search rules) (search rules) c.read_u32.ensures c.write_signed.ensures

pub returns-else-bytes-eq4 : goal.returns-else-bytes-eq4
returns-else-bytes-eq4 g c = says_other_size _ _ int_code c.args.bytes.now (search rules)
