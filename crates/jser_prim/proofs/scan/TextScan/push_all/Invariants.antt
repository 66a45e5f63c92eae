use Rattle.std.proofs.Common.{◌≤◌, length}
use Rattle.jser_prim.proofs.PushLemmas.{Pushed}
use Rattle.jser_prim.proofs.scan.TextScan.push_all.Given as goal

abbrev pub invariant-bytes : goal.invariant-bytes
invariant-bytes l = record { pushed : Pushed l.fn.self l.self l.bytes l.rest; room : length l.rest ≤ l.self.left }

abbrev pub decreases-bytes : goal.decreases-bytes
decreases-bytes l = length l.rest
