-- The check finds this with no answer too; with one, it refuses a wrong body sooner.
use Rattle.std.proofs.Common.{rules}
use Rattle.jser_table.proofs.kept.KeptLayer.kind.Goals as goal

pub returns-in-Many : goal.returns-in-Many
returns-in-Many c = search rules
