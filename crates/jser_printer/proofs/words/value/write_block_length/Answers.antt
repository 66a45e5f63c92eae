use Rattle.std.proofs.Common.{rules}
use Rattle.jser_printer.proofs.ValueLemmas.{says_no_bytes, says_some_bytes}
use Rattle.jser_printer.proofs.words.value.write_block_length.Goals as goal

pub returns-then-length-eq0 : goal.returns-then-length-eq0
returns-then-length-eq0 g c = says_no_bytes _ _ _ _ _ _ _ c.write_decimal.ensures c.write.ensures (search rules)

pub returns-else-length-eq0 : goal.returns-else-length-eq0
returns-else-length-eq0 g c = says_some_bytes _ _ _ _ _ _ _ c.write_decimal.ensures c.write-else-length-eq0.ensures (search rules)
