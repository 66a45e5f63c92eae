-- The check finds this with no answer too; with one, it refuses a wrong body sooner.
use Rattle.std.proofs.Common.{rules}
use Rattle.jser_table.proofs.codes.size_of_code.Goals as goal

pub returns-in-68 : goal.returns-in-68
returns-in-68 c = search rules
