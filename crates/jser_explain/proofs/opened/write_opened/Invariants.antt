use Rattle.std.proofs.Common.{length}
use Rattle.jser_prim.specs.Outgoing.{sink_state}
use Rattle.jser_printer.specs.Says.{Saying}
use Rattle.jser_explain.specs.Opened.{opened_words}
use Rattle.jser_explain.proofs.opened.write_opened.Given as goal

abbrev pub invariant-opened : goal.invariant-opened
invariant-opened g l =
    Saying l.fn.outbox l.outbox (sink_state (g.W.Sink.gone_out l.fn.sink) (g.W.Sink.has_failed l.fn.sink)) (sink_state (g.W.Sink.gone_out l.sink) (g.W.Sink.has_failed l.sink))
    (λ k. opened_words l.opened k) (λ k. opened_words l.rest k)

abbrev pub decreases-opened : goal.decreases-opened
decreases-opened g l = length l.rest
