use Rattle.std.proofs.Common.{take}
use Rattle.jser_prim.specs.ModifiedUtf8.{modified_utf8}
use Rattle.jser_prim.specs.Outgoing.{Puts, sink_state}
use Rattle.jser_value.proofs.encoder.put_units.Given as goal

abbrev pub invariant-loop-unit : goal.invariant-loop-unit
invariant-loop-unit g l =
    Puts l.fn.outbox l.outbox (sink_state (g.W.Sink.gone_out l.fn.sink) (g.W.Sink.has_failed l.fn.sink)) (sink_state (g.W.Sink.gone_out l.sink) (g.W.Sink.has_failed l.sink))
    (modified_utf8 (take l.unit-index l.units))
