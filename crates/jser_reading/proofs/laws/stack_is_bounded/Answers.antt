use Rattle.jser_reading.proofs.StackBounds.{stack_law}
use Rattle.jser_reading.proofs.laws.stack_is_bounded.Goals as goal

pub returns : goal.returns
returns c = stack_law
