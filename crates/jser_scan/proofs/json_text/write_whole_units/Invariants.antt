use Rattle.std.proofs.Common.{◌++◌, length}
use Rattle.std.specs.List.{flat_map}
use Rattle.jser_prim.specs.Outgoing.{sink_state}
use Rattle.jser_shown.specs.Words.{quoted_unit}
use Rattle.jser_printer.specs.Says.{Saying}
use Rattle.jser_scan.specs.JsonTexts.{whole_units}
use Rattle.jser_scan.proofs.json_text.write_whole_units.Given as goal

-- what is left to be said is that of the units that are left
abbrev pub invariant-characters : goal.invariant-characters
invariant-characters g l =
    Saying l.fn.outbox l.outbox (sink_state (g.W.Sink.gone_out l.fn.sink) (g.W.Sink.has_failed l.fn.sink)) (sink_state (g.W.Sink.gone_out l.sink) (g.W.Sink.has_failed l.sink))
    (λ k. flat_map quoted_unit (whole_units l.units) ++ k) (λ k. flat_map quoted_unit (whole_units l.rest) ++ k)

abbrev pub decreases-characters : goal.decreases-characters
decreases-characters g l = length l.rest
