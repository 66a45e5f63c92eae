use Rattle.std.proofs.Common.{length, ◌-◌}
use Rattle.jser_anywhere.specs.Scans.{Fed}
use Rattle.jser_anywhere.proofs.scan.Scan.feed.Given as goal

abbrev pub decreases-bytes : goal.decreases-bytes
decreases-bytes g l = length l.piece - l.at

abbrev pub invariant-bytes : goal.invariant-bytes
invariant-bytes g l = Fed (g.J.Judge.passes l.judge) l.fn.self l.self l.piece l.at
