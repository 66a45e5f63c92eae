use Rattle.jser_find.proofs.MarkLemmas.{first_set, none_set}
use Rattle.jser_find.proofs.lanes.first_of.Goals as goal

pub returns-then-mask-eq0 : goal.returns-then-mask-eq0
returns-then-mask-eq0 c = λ test t. none_set c.args.lanes test c.top_bits-mask.result c.top_bits-mask.ensures c.if-mask-eq0.true t

pub returns-else-mask-eq0 : goal.returns-else-mask-eq0
returns-else-mask-eq0 c = λ test t. first_set c.args.lanes test c.top_bits-mask.result _ c.top_bits-mask.ensures c.lowest.ensures.set c.lowest.ensures.below t
