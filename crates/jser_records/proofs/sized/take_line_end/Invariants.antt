use Rattle.std.proofs.Common.{◌≡◌, []}
use Rattle.jser_records.specs.Arriving.{Took}
use Rattle.jser_records.specs.Told.{QuietTo}
use Rattle.jser_records.proofs.sized.take_line_end.Given as goal

-- nothing was taken so far
abbrev pub invariant-reads : goal.invariant-reads
invariant-reads g l = record {
  quiet : QuietTo g.W.Sink.gone_out g.W.Sink.has_failed g.E.Sink.gone_out g.E.Sink.has_failed l.fn.clerk l.clerk l.fn.output l.output l.fn.faults l.faults;
  took : Took l.fn.inbox l.inbox [];
  sought : l.inbox.sought ≡ l.fn.inbox.sought;
}
