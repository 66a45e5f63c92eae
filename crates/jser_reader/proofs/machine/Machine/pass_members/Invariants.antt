use Rattle.std.proofs.Common.{◌≡◌, ◌-◌, ◌≤◌, length, drop, Some}
use Rattle.jser_verdict.specs.Gates.{Gate}
use Rattle.jser_reader.specs.declared.tally.Tally.{Tally}
use Rattle.jser_reader.specs.Passes.{CanPass, Passes}
use Rattle.jser_reader.proofs.machine.Machine.pass_members.Given as goal

abbrev pub invariant-members : goal.invariant-members
invariant-members l = record {
  within : l.used ≤ length l.piece;
  can : CanPass l.self (drop l.used l.piece);
  nothing : l.used ≡ 0 → l.self ≡ l.fn.self;
  passes : (gate : Gate) (tally : Tally) → Passes gate l.piece (Some l.used) l.fn.self tally l.self tally;
}

abbrev pub decreases-members : goal.decreases-members
decreases-members l = length l.piece - l.used
