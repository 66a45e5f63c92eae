use Rattle.jser_records.specs.declared.layout.Shape.TheVariants as shape
use Rattle.jser_records.specs.Records.{RecordsGoTo}
use Rattle.jser_records.proofs.frames.read_frames.Given as goal

abbrev pub invariant-frames : goal.invariant-frames
invariant-frames g l = RecordsGoTo g.W.Sink.gone_out g.W.Sink.has_failed g.E.Sink.gone_out g.E.Sink.has_failed shape.Frames l.fn.clerk l.clerk l.fn.inbox l.inbox l.fn.output l.output l.fn.faults l.faults
