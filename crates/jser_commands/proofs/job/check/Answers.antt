-- The check finds this with no answer too; with one, it refuses a wrong body sooner.
use Rattle.std.proofs.Common.{rules}
use Rattle.jser_commands.proofs.job.check.Goals as goal

pub returns-in-Err-Stop-Refused-clause-accepted : goal.returns-in-Err-Stop-Refused-clause-accepted
returns-in-Err-Stop-Refused-clause-accepted g c = search rules
