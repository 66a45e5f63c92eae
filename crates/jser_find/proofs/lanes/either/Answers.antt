use Rattle.jser_find.proofs.MarkLemmas.{either_tests}
use Rattle.jser_find.proofs.lanes.either.Goals as goal

pub returns : goal.returns
returns c = λ f g ta tb. either_tests c.args.a c.args.b f g ta tb
