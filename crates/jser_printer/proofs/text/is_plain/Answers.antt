-- The check finds this with no answer too; with one, it refuses a wrong body sooner.
use Rattle.std.proofs.Common.{rules}
use Rattle.jser_printer.proofs.text.is_plain.Goals as goal

pub returns-then-unit-ge32 : goal.returns-then-unit-ge32
returns-then-unit-ge32 c = search rules
