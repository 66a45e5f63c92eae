-- The check finds this with no answer too; with one, it refuses a wrong body sooner.
use Rattle.std.proofs.Common.{rules}
use Rattle.jser_check.proofs.gate.HeldGateGate.limits.Goals as goal

pub returns : goal.returns
returns g c = search rules
