use Rattle.std.proofs.Common.{◌≤◌, ◌-◌, length, take}
use Rattle.jser_prim.specs.WholeUnits.{AreUnitsSpelled}
use Rattle.jser_prim.proofs.runs.twos_len.Given as goal

abbrev pub invariant-loads : goal.invariant-loads
invariant-loads l = record { within : l.len ≤ length l.bytes; spelled : AreUnitsSpelled (take l.len l.bytes) }

abbrev pub decreases-loads : goal.decreases-loads
decreases-loads l = length l.bytes - l.len

abbrev pub invariant-units : goal.invariant-units
invariant-units l = record { within : l.len ≤ length l.bytes; spelled : AreUnitsSpelled (take l.len l.bytes) }

abbrev pub decreases-units : goal.decreases-units
decreases-units l = length l.bytes - l.len
