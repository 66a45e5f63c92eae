use Rattle.jser_find.proofs.MarkLemmas.{both_tests}
use Rattle.jser_find.proofs.lanes.both.Goals as goal

pub returns : goal.returns
returns c = λ f g ta tb. both_tests c.args.a c.args.b f g ta tb
