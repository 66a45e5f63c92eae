use Rattle.std.proofs.Common.{◌≡◌, ◌-◌, ◌≤◌, length, Some}
use Rattle.jser_reader.specs.declared.phase.Phase.TheVariants as phase
use Rattle.jser_reader.specs.Passes.{Passes}
use Rattle.jser_reader.proofs.reader.Reader.skip.Given as goal

abbrev pub invariant-steps : goal.invariant-steps
invariant-steps g l = record {
  gate : l.self.gate ≡ l.fn.self.gate;
  within : l.used ≤ length l.piece;
  passes : Passes (g.G.Gate.told l.fn.self.gate) l.piece (Some l.used) l.fn.self.machine l.fn.self.tally l.self.machine l.self.tally;
  goes_on : l.fn.self.machine.phase ≡ phase.Stopped → ⊥;
}

abbrev pub decreases-steps : goal.decreases-steps
decreases-steps g l = length l.piece - l.used
