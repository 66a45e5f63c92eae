use Rattle.std.proofs.Common.{rules}
use Rattle.jser_grammar.specs.Codes.{double_code}
use Rattle.jser_printer.proofs.MeaningLemmas.{says_other_size, says_double}
use Rattle.jser_printer.proofs.words.meaning.write_double.Goals as goal

pub returns-then-bytes-eq8 : goal.returns-then-bytes-eq8
returns-then-bytes-eq8 g c =
    says_double _ _ _ _ c.args.bytes.now c.read_u64.result c.double_of.result (search rules) (search rules) c.read_u64.ensures c.double_of.ensures c.write_float_in_brackets.ensures

pub returns-else-bytes-eq8 : goal.returns-else-bytes-eq8
returns-else-bytes-eq8 g c = says_other_size _ _ double_code c.args.bytes.now (search rules)
