use Rattle.std.proofs.Common.{sym, subst}
use Rattle.jser_prim.specs.Outgoing.{sink_state}
use Rattle.jser_printer.specs.TokenWords.{token_words}
use Rattle.jser_printer.specs.Phases.{phase_cues}
use Rattle.jser_printer.specs.Seen.{view_seen}
use Rattle.jser_printer.specs.Says.{Says}
use Rattle.jser_printer.proofs.printer.taking.write_in_phase.Goals as goal

pub returns-in_err-phase-in-Fields-clause-said : goal.returns-in_err-phase-in-Fields-clause-said
returns-in_err-phase-in-Fields-clause-said g c =
    subst (λ p. Says c.args.outbox.now c.write_class_field.new.outbox (sink_state (g.W.Sink.gone_out c.args.sink.now) (g.W.Sink.has_failed c.args.sink.now)) (sink_state (g.W.Sink.gone_out c.write_class_field.new.sink) (g.W.Sink.has_failed c.write_class_field.new.sink))
    (λ k. token_words c.args.marks (phase_cues p c.args.draft.now.name c.args.draft.now.done c.args.standing.now.cues) (view_seen c.args.seen) k)) (sym c.in-Fields.is)
    (c.write_class_field.ensures.said c.args.draft.now.name c.args.draft.now.done)

pub returns-in_ok-phase-in-Fields-clause-said : goal.returns-in_ok-phase-in-Fields-clause-said
returns-in_ok-phase-in-Fields-clause-said g c =
    subst (λ p. Says c.args.outbox.now c.write_class_field.new.outbox (sink_state (g.W.Sink.gone_out c.args.sink.now) (g.W.Sink.has_failed c.args.sink.now)) (sink_state (g.W.Sink.gone_out c.write_class_field.new.sink) (g.W.Sink.has_failed c.write_class_field.new.sink))
    (λ k. token_words c.args.marks (phase_cues p c.args.draft.now.name c.args.draft.now.done c.args.standing.now.cues) (view_seen c.args.seen) k)) (sym c.in-Fields.is)
    (c.write_class_field.ensures.said c.args.draft.now.name c.args.draft.now.done)
