use Rattle.std.proofs.Common.{◌≡◌}
use Rattle.jser_prim.specs.Outgoing.{sink_state}
use Rattle.jser_shown.specs.Telling.{settle_says, settled}
use Rattle.jser_printer.specs.Steps.{steps_left}
use Rattle.jser_printer.specs.Says.{Saying}
use Rattle.jser_printer.proofs.printer.Printer.write_all_due.Given as goal

abbrev pub invariant-dues : goal.invariant-dues
invariant-dues g l = record {
  said : Saying l.fn.outbox l.outbox (sink_state (g.W.Sink.gone_out l.fn.sink) (g.W.Sink.has_failed l.fn.sink)) (sink_state (g.W.Sink.gone_out l.sink) (g.W.Sink.has_failed l.sink))
      (λ k. settle_says l.fn.self.known l.fn.self.cues k) (λ k. settle_says l.self.known l.self.cues k);
  settles : settled l.fn.self ≡ settled l.self;
}

abbrev pub decreases-dues : goal.decreases-dues
decreases-dues g l = steps_left l.self
