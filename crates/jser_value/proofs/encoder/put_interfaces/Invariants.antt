use Rattle.std.proofs.Common.{take}
use Rattle.std.specs.List.{flat_map}
use Rattle.jser_grammar.specs.Spelling.{utf}
use Rattle.jser_prim.specs.Outgoing.{Puts, sink_state}
use Rattle.jser_value.proofs.encoder.put_interfaces.Given as goal

abbrev pub invariant-loop-name : goal.invariant-loop-name
invariant-loop-name g l =
    Puts l.fn.outbox l.outbox (sink_state (g.W.Sink.gone_out l.fn.sink) (g.W.Sink.has_failed l.fn.sink)) (sink_state (g.W.Sink.gone_out l.sink) (g.W.Sink.has_failed l.sink))
    (flat_map (λ name. utf name.items) (take l.name-index l.names))
