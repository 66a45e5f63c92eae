use Rattle.std.proofs.Common.{◌≡◌, length}
use Rattle.jser_filter.specs.Cuts.{before_last}
use Rattle.jser_filter.proofs.cut.before_last.Given as goal

abbrev pub invariant-loop-last : goal.invariant-loop-last
invariant-loop-last l = before_last l.at l.front ≡ before_last l.at l.units

abbrev pub decreases-loop-last : goal.decreases-loop-last
decreases-loop-last l = length l.front
