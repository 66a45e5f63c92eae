-- The check finds this with no answer too; with one, it refuses a wrong body sooner.
use Rattle.std.proofs.Common.{rules}
use Rattle.jser_table.proofs.codes.Codes.as_slice.Goals as goal

pub returns-clause-codes : goal.returns-clause-codes
returns-clause-codes c = search rules
