use Rattle.std.proofs.Common.{◌-◌, ◌<◌, length, drop, Some}
use Rattle.jser_reader.specs.declared.tally.Tally.{Tally}
use Rattle.jser_reader.specs.Passes.{Passes, CanPass, IsQuiet}
use Rattle.jser_reader.proofs.machine.Machine.pass_quiets.Given as goal

abbrev pub invariant-tokens : goal.invariant-tokens
invariant-tokens g l = record {
  within : l.used < length l.piece;
  can : CanPass l.self (drop l.used l.piece);
  quiet : IsQuiet l.self.phase;
  passes : (tally : Tally) → Passes (g.G.Gate.told l.gate) l.piece (Some l.used) l.fn.self tally l.self tally;
}

abbrev pub decreases-tokens : goal.decreases-tokens
decreases-tokens g l = length l.piece - l.used
