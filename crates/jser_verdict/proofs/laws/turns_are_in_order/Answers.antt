use Rattle.jser_verdict.proofs.Turns as laws
use Rattle.jser_verdict.proofs.laws.turns_are_in_order.Goals as goal

pub returns : goal.returns
returns c = laws.turns_are_in_order
