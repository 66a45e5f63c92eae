use Rattle.std.proofs.Common.{◌≤◌}
use Rattle.jser_find.proofs.longest.longest.Given as goal

abbrev pub invariant-fronts : goal.invariant-fronts
invariant-fronts l = l.count ≤ l.fn.most
