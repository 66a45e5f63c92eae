use Rattle.std.proofs.Common.{◌++◌, length}
use Rattle.std.specs.List.{flat_map}
use Rattle.jser_prim.specs.Outgoing.{sink_state}
use Rattle.jser_shown.specs.Words.{quoted_unit}
use Rattle.jser_printer.specs.Says.{Saying}
use Rattle.jser_printer.proofs.words.quote.write_units.Given as goal

abbrev pub invariant-runs : goal.invariant-runs
invariant-runs g l =
    Saying l.fn.outbox l.outbox (sink_state (g.W.Sink.gone_out l.fn.sink) (g.W.Sink.has_failed l.fn.sink)) (sink_state (g.W.Sink.gone_out l.sink) (g.W.Sink.has_failed l.sink))
    (λ k. flat_map quoted_unit l.units ++ k) (λ k. flat_map quoted_unit l.rest ++ k)

abbrev pub decreases-runs : goal.decreases-runs
decreases-runs g l = length l.rest
