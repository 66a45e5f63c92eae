use Rattle.std.proofs.Common.{length}
use Rattle.jser_reader.proofs.ManyEnds.{EndsSo}
use Rattle.jser_reader.proofs.machine.Machine.end_value.Given as goal

abbrev pub invariant-frames : goal.invariant-frames
invariant-frames l = EndsSo l.piece l.fn.self l.fn.counts l.self l.counts

abbrev pub decreases-frames : goal.decreases-frames
decreases-frames l = length l.self.frames
