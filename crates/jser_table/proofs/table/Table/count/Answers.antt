use Rattle.std.proofs.Common.{arith}
use Rattle.jser_table.proofs.table.Table.count.Goals as goal

-- there are at most `max` entries
pub overflow_cast-result : goal.overflow_cast-result
overflow_cast-result c = omega (arith, c.self.invariant.within)
