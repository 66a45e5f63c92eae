use Rattle.std.proofs.Common.{◌-◌, length}
use Rattle.jser_reader.specs.Takes.{AreRight}
use Rattle.jser_reader.proofs.machine.take.header.right_bytes.Given as goal

abbrev pub invariant-bytes : goal.invariant-bytes
invariant-bytes l = AreRight l.place l.piece l.count

abbrev pub decreases-bytes : goal.decreases-bytes
decreases-bytes l = length l.piece - l.count
