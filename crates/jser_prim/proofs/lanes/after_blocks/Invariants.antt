use Rattle.std.proofs.Common.{◌≤◌, ◌-◌, length}
use Rattle.jser_prim.specs.WholeUnits.{IsAsciiBetween}
use Rattle.jser_prim.proofs.lanes.after_blocks.Given as goal

abbrev pub invariant-plain : goal.invariant-plain
invariant-plain l = record { within : l.end ≤ length l.bytes; ahead : l.at ≤ l.end; ascii : IsAsciiBetween l.bytes l.at l.end }

abbrev pub decreases-plain : goal.decreases-plain
decreases-plain l = length l.bytes - l.end
