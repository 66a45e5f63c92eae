-- The check finds this with no answer too; with one, it refuses a wrong body sooner.
use Rattle.std.proofs.Common.{rules}
use Rattle.jser_reader.proofs.machine.Machine.take.Goals as goal

pub returns-in-Prims : goal.returns-in-Prims
returns-in-Prims g c = search rules
