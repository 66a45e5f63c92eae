use Rattle.std.proofs.Common.{rules, refl}
use Rattle.jser_grammar.specs.Codes.{boolean_code}
use Rattle.jser_printer.proofs.MeaningLemmas.{says_other_size, says_boolean}
use Rattle.jser_printer.proofs.words.meaning.write_boolean.Goals as goal

pub returns-then-bytes-eq1 : goal.returns-then-bytes-eq1
returns-then-bytes-eq1 g c = says_boolean _ _ _ _ c.args.bytes.now _ (search rules) refl c.write_truth.ensures

pub returns-else-bytes-eq1 : goal.returns-else-bytes-eq1
returns-else-bytes-eq1 g c = says_other_size _ _ boolean_code c.args.bytes.now (search rules)
