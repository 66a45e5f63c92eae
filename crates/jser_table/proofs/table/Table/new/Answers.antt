-- The check finds this with no answer too; with one, it refuses a wrong body sooner.
use Rattle.std.proofs.Common.{rules}
use Rattle.jser_table.proofs.table.Table.new.Goals as goal

pub returns-clause-max : goal.returns-clause-max
returns-clause-max c = search rules
