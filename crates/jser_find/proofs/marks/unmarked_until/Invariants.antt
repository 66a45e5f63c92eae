use Rattle.std.proofs.Common.{◌-◌, length}
use Rattle.jser_find.specs.Marks.{AreUnmarked}
use Rattle.jser_find.proofs.marks.unmarked_until.Given as goal

abbrev pub invariant-loads : goal.invariant-loads
invariant-loads l = AreUnmarked l.text l.from l.at

abbrev pub decreases-loads : goal.decreases-loads
decreases-loads l = length l.text - l.at
