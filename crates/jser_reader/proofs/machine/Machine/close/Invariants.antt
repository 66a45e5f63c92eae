use Rattle.std.proofs.Common.{length}
use Rattle.jser_reader.specs.Closing.{ClosingOn}
use Rattle.jser_reader.proofs.machine.Machine.close.Given as goal

abbrev pub invariant-closing : goal.invariant-closing
invariant-closing l = ClosingOn l.fn.self l.fn.parent l.self l.above

abbrev pub decreases-closing : goal.decreases-closing
decreases-closing l = length l.self.frames
