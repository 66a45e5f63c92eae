-- The check finds this with no answer too; with one, it refuses a wrong body sooner.
use Rattle.std.proofs.Common.{rules}
use Rattle.jser_printer.proofs.seen.see_tag.Goals as goal

pub returns-in-124 : goal.returns-in-124
returns-in-124 c = search rules
