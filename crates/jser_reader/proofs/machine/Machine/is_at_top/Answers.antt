-- The check finds this with no answer too; with one, it refuses a wrong body sooner.
use Rattle.std.proofs.Common.{rules}
use Rattle.jser_reader.proofs.machine.Machine.is_at_top.Goals as goal

pub returns-clause-inside : goal.returns-clause-inside
returns-clause-inside c = search rules
