use Rattle.uses_graph.proofs.ToldLemmas.{list_told}
use Rattle.uses_graph.proofs.told.tree.Goals as goal

pub returns-clause-list : goal.returns-clause-list
returns-clause-list c = list_told c.one_reading.ensures c.args.bytes.now c.args.graph.now c.contents.result c.requires c.contents.ensures.list
