use Rattle.uses_graph.proofs.ToldLemmas.{name_told}
use Rattle.uses_graph.proofs.told.name.Goals as goal

pub returns : goal.returns
returns c = name_told c.one_reading.ensures c.args.bytes.now c.args.graph.now c.args.number c.name_at.result c.requires c.name_at.ensures
