use Rattle.std.proofs.Common.{rules, refl}
use Rattle.jser_grammar.specs.Codes.{char_code}
use Rattle.jser_printer.proofs.MeaningLemmas.{says_other_size, says_char}
use Rattle.jser_printer.proofs.words.meaning.write_char.Goals as goal

pub returns-then-bytes-eq2 : goal.returns-then-bytes-eq2
returns-then-bytes-eq2 g c =
    says_char _ _ _ _ _ _ _ _ c.args.bytes.now _ _ (search rules) (search rules) c.read_u16.ensures refl c.write.ensures c.write_quoted.ensures c.write-then-bytes-eq2.ensures

pub returns-else-bytes-eq2 : goal.returns-else-bytes-eq2
returns-else-bytes-eq2 g c = says_other_size _ _ char_code c.args.bytes.now (search rules)
