use Rattle.std.proofs.Common.{◌≡◌}
use Rattle.jser_records.specs.Lines.{TakesFirst, end_of}
use Rattle.jser_records.specs.Told.{QuietTo}
use Rattle.jser_records.proofs.lines.read_long_line.Given as goal

abbrev pub invariant-stretches : goal.invariant-stretches
invariant-stretches g l = record {
  quiet : QuietTo g.W.Sink.gone_out g.W.Sink.has_failed g.E.Sink.gone_out g.E.Sink.has_failed l.fn.clerk l.clerk l.fn.output l.output l.fn.faults l.faults;
  takes : TakesFirst l.lines l.stretch l.fn.inbox l.inbox l.clerk.current;
  sought : l.inbox.sought ≡ end_of l.lines;
}
