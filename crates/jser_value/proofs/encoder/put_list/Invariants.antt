use Rattle.std.proofs.Common.{take}
use Rattle.std.specs.List.{flat_map}
use Rattle.jser_grammar.specs.Spelling.{content_spelling}
use Rattle.jser_value.specs.View.{view_content}
use Rattle.jser_prim.specs.Outgoing.{Puts, sink_state}
use Rattle.jser_value.proofs.encoder.put_list.Given as goal

abbrev pub invariant-loop-content : goal.invariant-loop-content
invariant-loop-content g l =
    Puts l.fn.outbox l.outbox (sink_state (g.W.Sink.gone_out l.fn.sink) (g.W.Sink.has_failed l.fn.sink)) (sink_state (g.W.Sink.gone_out l.sink) (g.W.Sink.has_failed l.sink))
    (flat_map (λ content. content_spelling (view_content content)) (take l.content-index l.contents))
