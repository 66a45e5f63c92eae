use Rattle.jser_reading.proofs.PlainVerdict.{each_gate_law}
use Rattle.jser_reading.proofs.laws.each_gate_has_a_verdict.Goals as goal

pub returns : goal.returns
returns c = each_gate_law
