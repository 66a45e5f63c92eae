-- The check finds this with no answer too; with one, it refuses a wrong body sooner.
use Rattle.std.proofs.Common.{rules}
use Rattle.jser_table.proofs.chains.step_up.Goals as goal

pub returns-then-count-bound-clause-up : goal.returns-then-count-bound-clause-up
returns-then-count-bound-clause-up c = search rules
