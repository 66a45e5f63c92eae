use Rattle.jser_names.proofs.SourceLemmas.{of_named}
use Rattle.jser_names.proofs.named.bytes_and_names_of.Goals as goal

pub returns-in-Ok-clause-accepted : goal.returns-in-Ok-clause-accepted
returns-in-Ok-clause-accepted g c = of_named (g.R.Source.to_come c.args.source.now) c.in-Ok.bytes c.in-Ok.found c.in-Ok.ensures.accepted
