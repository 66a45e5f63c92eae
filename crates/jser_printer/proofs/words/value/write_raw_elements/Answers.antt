use Rattle.std.proofs.Common.{rules}
use Rattle.jser_printer.proofs.ValueLemmas.{says_no_count}
use Rattle.jser_printer.proofs.words.value.write_raw_elements.Goals as goal

pub returns-then-at-eq0 : goal.returns-then-at-eq0
returns-then-at-eq0 g c = says_no_count _ _ _ _ _ _ _ _ (search rules)
