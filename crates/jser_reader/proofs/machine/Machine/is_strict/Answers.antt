-- The check finds this with no answer too; with one, it refuses a wrong body sooner.
use Rattle.std.proofs.Common.{rules}
use Rattle.jser_reader.proofs.machine.Machine.is_strict.Goals as goal

pub returns-in-ClassOf-Object : goal.returns-in-ClassOf-Object
returns-in-ClassOf-Object c = search rules
