use Rattle.std.proofs.Common.{◌-◌, ◌≤◌, length}
use Rattle.jser_anywhere.specs.Steps.{IsText}
use Rattle.jser_anywhere.proofs.quiet.text_until.Given as goal

abbrev pub invariant-loads : goal.invariant-loads
invariant-loads l = IsText l.piece l.from l.at × (l.at ≤ l.end)

abbrev pub decreases-loads : goal.decreases-loads
decreases-loads l = length l.piece - l.at
