-- The check finds this with no answer too; with one, it refuses a wrong body sooner.
use Rattle.std.proofs.Common.{rules}
use Rattle.jser_table.proofs.kept.KeptLayer.codes.Goals as goal

pub returns-in-Few-clause-codes : goal.returns-in-Few-clause-codes
returns-in-Few-clause-codes c = search rules
