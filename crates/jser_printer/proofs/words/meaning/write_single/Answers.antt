use Rattle.std.proofs.Common.{rules}
use Rattle.jser_grammar.specs.Codes.{float_code}
use Rattle.jser_printer.proofs.MeaningLemmas.{says_other_size, says_single}
use Rattle.jser_printer.proofs.words.meaning.write_single.Goals as goal

pub returns-then-bytes-eq4 : goal.returns-then-bytes-eq4
returns-then-bytes-eq4 g c =
    says_single _ _ _ _ c.args.bytes.now c.read_u32.result c.single_of.result (search rules) (search rules) c.read_u32.ensures c.single_of.ensures c.write_float_in_brackets.ensures

pub returns-else-bytes-eq4 : goal.returns-else-bytes-eq4
returns-else-bytes-eq4 g c = says_other_size _ _ float_code c.args.bytes.now (search rules)
