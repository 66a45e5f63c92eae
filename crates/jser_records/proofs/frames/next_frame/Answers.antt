use Rattle.jser_records.specs.declared.layout.Shape.TheVariants as shape
use Rattle.jser_records.specs.Sized.{at_line}
use Rattle.jser_records.proofs.RecordLemmas.{records_both, records_quiet}
use Rattle.jser_records.proofs.RoomLemmas.{took_more}
use Rattle.jser_records.proofs.frames.next_frame.Goals as goal

pub returns-in-Ok-false-clause-frames : goal.returns-in-Ok-false-clause-frames
returns-in-Ok-false-clause-frames g c =
    let was = c.args.clerk.now in
    let from = c.args.inbox.now in
    records_both shape.Frames at_line at_line at_line was c.read_more.new.clerk c.end_frames.new.clerk from c.read_more.new.inbox c.end_frames.new.inbox _ _ _ _ _ _
    (records_quiet shape.Frames at_line was c.read_more.new.clerk from c.read_more.new.inbox _ _ _ _ c.read_more.ensures.quiet (took_more from c.read_more.new.inbox c.in-Ok-false.ensures.comes))
    c.end_frames.ensures.frames
