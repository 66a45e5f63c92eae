use Rattle.std.proofs.Common.{◌≤◌, ◌-◌, length}
use Rattle.jser_prim.specs.WholeUnits.{IsAsciiBetween}
use Rattle.jser_prim.proofs.lanes.ascii_len.Given as goal

abbrev pub invariant-loads : goal.invariant-loads
invariant-loads l = record { within : l.len ≤ length l.bytes; ascii : IsAsciiBetween l.bytes 0 l.len }

abbrev pub decreases-loads : goal.decreases-loads
decreases-loads l = length l.bytes - l.len

abbrev pub invariant-bytes : goal.invariant-bytes
invariant-bytes l = record { within : l.len ≤ length l.bytes; ascii : IsAsciiBetween l.bytes 0 l.len }

abbrev pub decreases-bytes : goal.decreases-bytes
decreases-bytes l = length l.bytes - l.len
