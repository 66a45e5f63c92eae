use Rattle.uses_graph.proofs.ToldLemmas.{shown_told, length_told, front_told}
use Rattle.uses_graph.proofs.told.show.Goals as goal

pub returns-clause-shown : goal.returns-clause-shown
returns-clause-shown g c = shown_told c.one_reading.ensures c.args.bytes.now c.args.graph.now c.show.result _ _ c.requires c.show.ensures.out

pub returns-clause-length : goal.returns-clause-length
returns-clause-length g c = length_told c.one_reading.ensures c.args.bytes.now c.args.graph.now c.show.result c.requires c.show.ensures.length

pub returns-clause-front : goal.returns-clause-front
returns-clause-front g c = front_told c.one_reading.ensures c.args.bytes.now c.args.graph.now c.show.result _ _ c.requires c.show.ensures.written
