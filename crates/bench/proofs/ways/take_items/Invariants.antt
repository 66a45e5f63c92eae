use Rattle.std.proofs.Common.{length}
use Rattle.bench.proofs.ways.take_items.Given as goal

abbrev pub decreases-items : goal.decreases-items
decreases-items l = length l.rest
