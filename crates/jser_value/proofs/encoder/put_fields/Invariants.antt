use Rattle.std.proofs.Common.{take}
use Rattle.std.specs.List.{flat_map}
use Rattle.jser_value.specs.Encoding.{field_spelling}
use Rattle.jser_value.specs.View.{view_field}
use Rattle.jser_prim.specs.Outgoing.{Puts, sink_state}
use Rattle.jser_value.proofs.encoder.put_fields.Given as goal

abbrev pub invariant-loop-field : goal.invariant-loop-field
invariant-loop-field g l =
    Puts l.fn.outbox l.outbox (sink_state (g.W.Sink.gone_out l.fn.sink) (g.W.Sink.has_failed l.fn.sink)) (sink_state (g.W.Sink.gone_out l.sink) (g.W.Sink.has_failed l.sink))
    (flat_map (λ field. field_spelling (view_field field)) (take l.field-index l.fields))
