-- The check finds this with no answer too; with one, it refuses a wrong body sooner.
use Rattle.std.proofs.Common.{rules}
use Rattle.jser_filter.proofs.filter.Filter.with_modules.Goals as goal

pub returns-clause-modules : goal.returns-clause-modules
returns-clause-modules c = search rules
