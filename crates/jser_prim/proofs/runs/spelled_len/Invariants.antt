use Rattle.std.proofs.Common.{length}
use Rattle.jser_prim.specs.WholeUnits.{PassesUnits}
use Rattle.jser_prim.proofs.runs.spelled_len.Given as goal

abbrev pub invariant-units : goal.invariant-units
invariant-units l = PassesUnits l.bytes l.rest

abbrev pub decreases-units : goal.decreases-units
decreases-units l = length l.rest
