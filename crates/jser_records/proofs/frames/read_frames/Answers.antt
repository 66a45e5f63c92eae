use Rattle.jser_records.specs.declared.layout.Shape.TheVariants as shape
use Rattle.jser_records.specs.Sized.{at_line}
use Rattle.jser_records.proofs.RecordLemmas.{records_then}
use Rattle.jser_records.proofs.frames.read_frames.Goals as goal

pub returns-in-Err-clause-frames : goal.returns-in-Err-clause-frames
returns-in-Err-clause-frames g c =
    records_then shape.Frames at_line at_line c.args.clerk.now c.frames.clerk c.next_frame.new.clerk c.args.inbox.now c.frames.inbox _ _ _ _ _ _ c.frames.invariant c.in-Err.ensures.frames
