use Rattle.std.proofs.Common.{◌≡◌, length}
use Rattle.jser_reader.specs.Stacks.{HasNoField}
use Rattle.jser_reader.specs.Steps.{Kept, after_value}
use Rattle.jser_reader.proofs.machine.Machine.next_parts.Given as goal

abbrev pub invariant-frames : goal.invariant-frames
invariant-frames l = record {
  leaves : after_value l.self ≡ after_value l.fn.self;
  kept : Kept l.fn.self l.self;
  meter : l.self.meter ≡ l.fn.self.meter;
  none : HasNoField l.self.frames;
}

abbrev pub decreases-frames : goal.decreases-frames
decreases-frames l = length l.self.frames
