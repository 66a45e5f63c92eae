use Rattle.std.proofs.Common.{rules, refl}
use Rattle.jser_grammar.specs.Codes.{byte_code}
use Rattle.jser_printer.proofs.MeaningLemmas.{says_other_size, says_byte}
use Rattle.jser_printer.proofs.words.meaning.write_byte.Goals as goal

pub returns-then-bytes-eq1 : goal.returns-then-bytes-eq1
returns-then-bytes-eq1 g c = says_byte _ _ _ _ c.args.bytes.now _ (search rules) refl c.write_signed.ensures

pub returns-else-bytes-eq1 : goal.returns-else-bytes-eq1
returns-else-bytes-eq1 g c = says_other_size _ _ byte_code c.args.bytes.now (search rules)
