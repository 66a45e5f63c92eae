use Rattle.std.proofs.Common.{take}
use Rattle.std.specs.List.{flat_map}
use Rattle.jser_value.specs.Encoding.{section_spelling}
use Rattle.jser_prim.specs.Outgoing.{Puts, sink_state}
use Rattle.jser_grammar.specs.Spelling.{value_spelling, content_spelling}
use Rattle.jser_value.specs.View.{view_value, view_content, view_section}
use Rattle.jser_value.proofs.encoder.+encode.Given as goal

abbrev pub invariant-put_values-loop-value : goal.invariant-put_values-loop-value
invariant-put_values-loop-value g l =
    Puts l.fn.outbox l.outbox (sink_state (g.W.Sink.gone_out l.fn.sink) (g.W.Sink.has_failed l.fn.sink)) (sink_state (g.W.Sink.gone_out l.sink) (g.W.Sink.has_failed l.sink))
    (flat_map (λ value. value_spelling (view_value value)) (take l.value-index l.values.items))

abbrev pub invariant-put_sections-loop-section : goal.invariant-put_sections-loop-section
invariant-put_sections-loop-section g l =
    Puts l.fn.outbox l.outbox (sink_state (g.W.Sink.gone_out l.fn.sink) (g.W.Sink.has_failed l.fn.sink)) (sink_state (g.W.Sink.gone_out l.sink) (g.W.Sink.has_failed l.sink))
    (flat_map (λ section. section_spelling (view_section section)) (take l.section-index l.sections.items))

abbrev pub invariant-put_contents-loop-content : goal.invariant-put_contents-loop-content
invariant-put_contents-loop-content g l =
    Puts l.fn.outbox l.outbox (sink_state (g.W.Sink.gone_out l.fn.sink) (g.W.Sink.has_failed l.fn.sink)) (sink_state (g.W.Sink.gone_out l.sink) (g.W.Sink.has_failed l.sink))
    (flat_map (λ content. content_spelling (view_content content)) (take l.content-index l.contents.items))
