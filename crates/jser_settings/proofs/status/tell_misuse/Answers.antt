-- The check finds this with no answer too; with one, it refuses a wrong body sooner.
use Rattle.std.proofs.Common.{rules}
use Rattle.jser_settings.proofs.status.tell_misuse.Goals as goal

pub returns-clause-told : goal.returns-clause-told
returns-clause-told g c = search rules
