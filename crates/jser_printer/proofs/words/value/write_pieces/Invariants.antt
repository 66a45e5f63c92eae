use Rattle.std.proofs.Common.{◌+◌, ◌-◌}
use Rattle.jser_prim.specs.Outgoing.{sink_state}
use Rattle.jser_shown.specs.Telling.{raw_lines}
use Rattle.jser_printer.specs.Primitives.{view_elements}
use Rattle.jser_printer.specs.Says.{Saying}
use Rattle.jser_printer.proofs.words.value.write_pieces.Given as goal

abbrev pub invariant-elements : goal.invariant-elements
invariant-elements g l =
    Saying l.fn.outbox l.outbox (sink_state (g.W.Sink.gone_out l.fn.sink) (g.W.Sink.has_failed l.fn.sink)) (sink_state (g.W.Sink.gone_out l.sink) (g.W.Sink.has_failed l.sink))
    (λ k. raw_lines l.values (view_elements l.at.elements) l.at.level l.at.index l.size l.at.left l.bytes k)
    (λ k. raw_lines l.values (view_elements l.at.elements) l.at.level (l.at.index + l.index) l.size (l.at.left - l.index) l.rest k)
