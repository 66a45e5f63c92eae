use Rattle.uses_graph.proofs.ToldLemmas.{count_told}
use Rattle.uses_graph.proofs.told.name_count.Goals as goal

pub returns : goal.returns
returns c = count_told c.one_reading.ensures c.args.bytes.now c.args.graph.now c.name_count.result c.requires c.name_count.ensures
