-- The check finds this with no answer too; with one, it refuses a wrong body sooner.
use Rattle.std.proofs.Common.{rules}
use Rattle.jser_filter.proofs.filter.Filter.judge.Goals as goal

pub returns-in-Name : goal.returns-in-Name
returns-in-Name c = search rules
