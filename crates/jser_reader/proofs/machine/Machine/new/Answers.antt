-- The check finds this with no answer too; with one, it refuses a wrong body sooner.
use Rattle.std.proofs.Common.{rules}
use Rattle.jser_reader.proofs.machine.Machine.new.Goals as goal

pub returns-clause-new : goal.returns-clause-new
returns-clause-new c = search rules
