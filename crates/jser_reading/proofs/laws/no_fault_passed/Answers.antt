use Rattle.jser_reading.proofs.Faults.{no_fault_law}
use Rattle.jser_reading.proofs.laws.no_fault_passed.Goals as goal

pub returns : goal.returns
returns c = no_fault_law
