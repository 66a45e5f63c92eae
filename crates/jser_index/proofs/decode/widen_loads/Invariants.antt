use Rattle.std.proofs.Common.{◌<◌, ◌≤◌, ◌-◌, length}
use Rattle.jser_index.specs.Decoding.{Widened}
use Rattle.jser_index.proofs.decode.widen_loads.Given as goal

abbrev pub invariant-loads : goal.invariant-loads
invariant-loads l = record { within : l.at < length l.bytes; room : length l.bytes ≤ length l.room; widened : Widened l.bytes l.room l.at }

abbrev pub decreases-loads : goal.decreases-loads
decreases-loads l = length l.bytes - l.at
