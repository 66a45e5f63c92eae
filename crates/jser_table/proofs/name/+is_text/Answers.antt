-- The check finds this with no answer too; with one, it refuses a wrong body sooner.
use Rattle.std.proofs.lemmas.Grind.{common_steps}
use Rattle.std.proofs.Common.{arith, rules}
use Rattle.jser_table.proofs.name.+is_text.Goals as goal

pub returns-then-unit-from : goal.returns-then-unit-from
returns-then-unit-from t c = grind (arith, common_steps)

pub returns-else-unit-from : goal.returns-else-unit-from
returns-else-unit-from t c = search rules
