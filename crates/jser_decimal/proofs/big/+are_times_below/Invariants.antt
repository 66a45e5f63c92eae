use Rattle.std.proofs.Common.{◌+◌, length}
use Rattle.jser_decimal.proofs.big.+are_times_below.Given as goal

abbrev pub decreases-are_times_below : goal.decreases-are_times_below
decreases-are_times_below l = length l.one.now + length l.other.now
