-- The check finds this with no answer too; with one, it refuses a wrong body sooner.
use Rattle.std.proofs.lemmas.Grind.{common_steps}
use Rattle.std.proofs.Common.{arith}
use Rattle.jser_table.proofs.name.element_of.Goals as goal

pub returns-in-91 : goal.returns-in-91
returns-in-91 c = grind (arith, common_steps)
