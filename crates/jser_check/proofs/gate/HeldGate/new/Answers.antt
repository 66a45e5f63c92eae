use Rattle.std.proofs.Common.{rules}
use Rattle.jser_check.proofs.AdmittedLemmas.{admits_exactly}
use Rattle.jser_check.proofs.gate.HeldGate.new.Goals as goal

pub returns-clause-exact : goal.returns-clause-exact
returns-clause-exact g c = λ bytes list. admits_exactly (g.F.Holds.held c.args.holder) c.args.options bytes list

-- The check finds what follows with no answer too; with one, it refuses a wrong body sooner.

pub returns-clause-options : goal.returns-clause-options
returns-clause-options g c = search rules
