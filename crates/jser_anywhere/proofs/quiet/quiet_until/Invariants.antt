use Rattle.std.proofs.Common.{◌-◌, length}
use Rattle.jser_anywhere.specs.Steps.{IsQuiet}
use Rattle.jser_anywhere.proofs.quiet.quiet_until.Given as goal

abbrev pub invariant-loads : goal.invariant-loads
invariant-loads l = IsQuiet l.piece l.from l.at

abbrev pub decreases-loads : goal.decreases-loads
decreases-loads l = length l.piece - l.at
