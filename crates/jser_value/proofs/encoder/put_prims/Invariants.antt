use Rattle.std.proofs.Common.{take}
use Rattle.std.specs.List.{flat_map}
use Rattle.jser_grammar.specs.Spelling.{prim_spelling}
use Rattle.jser_value.specs.View.{view_prim}
use Rattle.jser_prim.specs.Outgoing.{Puts, sink_state}
use Rattle.jser_value.proofs.encoder.put_prims.Given as goal

abbrev pub invariant-loop-prim : goal.invariant-loop-prim
invariant-loop-prim g l =
    Puts l.fn.outbox l.outbox (sink_state (g.W.Sink.gone_out l.fn.sink) (g.W.Sink.has_failed l.fn.sink)) (sink_state (g.W.Sink.gone_out l.sink) (g.W.Sink.has_failed l.sink))
    (flat_map (λ prim. prim_spelling (view_prim prim)) (take l.prim-index l.prims))
