-- The check finds this with no answer too; with one, it refuses a wrong body sooner.
use Rattle.std.proofs.Common.{rules}
use Rattle.jser_index.proofs.graph.Index.name_count.Goals as goal

pub returns : goal.returns
returns c = search rules
