use Rattle.std.proofs.Common.{◌-◌, ◌≤◌, length}
use Rattle.jser_prim.specs.WholeUnits.{IsAsciiBetween}
use Rattle.jser_prim.proofs.lanes.is_plain_between.Given as goal

abbrev pub invariant-loads : goal.invariant-loads
invariant-loads l = record {
  within : l.at ≤ length l.bytes;
  order : l.from ≤ l.at;
  before : l.at ≤ l.to;
  ascii : IsAsciiBetween l.bytes l.from l.at;
}

abbrev pub decreases-loads : goal.decreases-loads
decreases-loads l = length l.bytes - l.at
