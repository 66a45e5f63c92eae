use Rattle.std.proofs.Common.{◌≡◌, ◌-◌, ◌<◌, length, drop, Some}
use Rattle.jser_reader.specs.Passes.{Passes, CanPass, IsQuiet}
use Rattle.jser_reader.proofs.reader.Reader.pass_classes.Given as goal

abbrev pub invariant-classes : goal.invariant-classes
invariant-classes g l = record {
  within : l.used < length l.piece;
  can : CanPass l.self.machine (drop l.used l.piece);
  quiet : IsQuiet l.self.machine.phase;
  passes : Passes (g.G.Gate.told l.fn.self.gate) l.piece (Some l.used) l.fn.self.machine l.fn.self.tally l.self.machine l.self.tally;
  gate : l.self.gate ≡ l.fn.self.gate;
}

abbrev pub decreases-classes : goal.decreases-classes
decreases-classes g l = length l.piece - l.used
