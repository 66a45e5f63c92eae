use Rattle.jser_prim.specs.Outgoing.{sink_state}
use Rattle.jser_shown.specs.Words.{begin_line}
use Rattle.jser_printer.specs.Says.{Saying}
use Rattle.jser_printer.proofs.words.line.write_many_levels.Given as goal

abbrev pub invariant-runs : goal.invariant-runs
invariant-runs g l =
    Saying l.fn.outbox l.outbox (sink_state (g.W.Sink.gone_out l.fn.sink) (g.W.Sink.has_failed l.fn.sink)) (sink_state (g.W.Sink.gone_out l.sink) (g.W.Sink.has_failed l.sink))
    (λ k. begin_line l.level k) (λ k. begin_line l.left k)

abbrev pub decreases-runs : goal.decreases-runs
decreases-runs g l = l.left
