use Rattle.std.proofs.Common.{◌-◌, length}
use Rattle.jser_find.proofs.StartLemmas.{NoneYet}
use Rattle.jser_find.proofs.start.first_start.Given as goal

abbrev pub invariant-places : goal.invariant-places
invariant-places l = NoneYet l.text l.fn.from l.at

abbrev pub decreases-places : goal.decreases-places
decreases-places l = length l.text - l.at
