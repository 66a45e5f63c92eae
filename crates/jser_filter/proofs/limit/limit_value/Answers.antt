-- The check finds this with no answer too; with one, it refuses a wrong body sooner.
use Rattle.std.proofs.lemmas.Grind.{common_steps}
use Rattle.std.proofs.Common.{arith}
use Rattle.jser_filter.proofs.limit.limit_value.Goals as goal

pub returns-in-45 : goal.returns-in-45
returns-in-45 c = grind (arith, common_steps)
