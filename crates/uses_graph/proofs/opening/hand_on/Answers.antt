use Rattle.uses_graph.proofs.ToldLemmas.{count_told}
use Rattle.uses_graph.proofs.opening.hand_on.Goals as goal

pub returns-in-Ok-clause-names : goal.returns-in-Ok-clause-names
returns-in-Ok-clause-names g c =
    count_told c.one_reading.ensures c.args.graph.now.bytes c.args.graph.now c.name_count.result c.in-Ok.ensures.stands c.name_count.ensures
