-- The check finds this with no answer too; with one, it refuses a wrong body sooner.
use Rattle.std.proofs.Common.{rules}
use Rattle.jser_table.proofs.kept.KeptLayer.element_size.Goals as goal

pub returns-in-Array-Prim : goal.returns-in-Array-Prim
returns-in-Array-Prim c = search rules
