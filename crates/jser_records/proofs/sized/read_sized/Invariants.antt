use Rattle.std.proofs.Common.{◌≡◌}
use Rattle.jser_records.specs.declared.layout.Shape.TheVariants as shape
use Rattle.jser_records.specs.Records.{RecordsGoTo}
use Rattle.jser_records.proofs.sized.read_sized.Given as goal

abbrev pub invariant-records : goal.invariant-records
invariant-records g l = record {
  records : RecordsGoTo g.W.Sink.gone_out g.W.Sink.has_failed g.E.Sink.gone_out g.E.Sink.has_failed shape.Sized l.fn.clerk l.clerk l.fn.inbox l.inbox l.fn.output l.output l.fn.faults l.faults;
  sought : l.inbox.sought ≡ 0x0A;
}
