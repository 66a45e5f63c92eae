use Rattle.std.proofs.Common.{◌≡◌, ◌⊎◌, ◌≤◌, []}
use Rattle.jser_records.specs.Frames.{TakesOn}
use Rattle.jser_records.specs.Readings.{HasLost, HasPlain}
use Rattle.jser_records.specs.Told.{QuietTo}
use Rattle.jser_records.proofs.frames.take_bytes.Given as goal

-- so many of the bytes were taken
abbrev pub invariant-pieces : goal.invariant-pieces
invariant-pieces g l = record {
  quiet : QuietTo g.W.Sink.gone_out g.W.Sink.has_failed g.E.Sink.gone_out g.E.Sink.has_failed l.fn.clerk l.clerk l.fn.output l.output l.fn.faults l.faults;
  key : l.clerk.current.reading.key ≡ l.fn.clerk.current.reading.key;
  few : l.taken ≤ l.count;
  sought : l.inbox.sought ≡ l.fn.inbox.sought;
  takes : HasPlain l.fn.clerk.current.reading [] ⊎ HasLost l.fn.clerk.current.reading → TakesOn l.count l.taken l.fn.inbox l.inbox l.fn.clerk.current l.clerk.current;
}
