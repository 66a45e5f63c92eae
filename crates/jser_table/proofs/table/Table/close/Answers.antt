-- The check finds this with no answer too; with one, it refuses a wrong body sooner.
use Rattle.std.proofs.Common.{rules}
use Rattle.jser_table.proofs.table.Table.close.Goals as goal

pub returns-clause-closed : goal.returns-clause-closed
returns-clause-closed c = search rules

pub returns-clause-chains : goal.returns-clause-chains
returns-clause-chains c = search rules
