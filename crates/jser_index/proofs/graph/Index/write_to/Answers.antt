-- The check finds this with no answer too; with one, it refuses a wrong body sooner.
use Rattle.std.proofs.Common.{rules}
use Rattle.jser_index.proofs.graph.Index.write_to.Goals as goal

pub returns-in-Ok-clause-out : goal.returns-in-Ok-clause-out
returns-in-Ok-clause-out g c = search rules
