use Rattle.std.proofs.Common.{drop}
use Rattle.jser_prim.specs.Outgoing.{sink_state}
use Rattle.jser_printer.specs.Says.{Saying}
use Rattle.jser_commands.specs.Counts.{lines_before}
use Rattle.jser_commands.specs.Lines.{marked_words}
use Rattle.jser_commands.proofs.list.write_lines.Given as goal

-- the lines before this one were said; the others are left
abbrev pub invariant-lines : goal.invariant-lines
invariant-lines g l =
    Saying l.fn.outbox l.outbox (sink_state (g.W.Sink.gone_out l.fn.sink) (g.W.Sink.has_failed l.fn.sink)) (sink_state (g.W.Sink.gone_out l.sink) (g.W.Sink.has_failed l.sink))
    (λ k. lines_before (marked_words l.fn.mark l.fn.filter) (l.fn.names) k)
    (λ k. lines_before (marked_words l.fn.mark l.fn.filter) (drop l.number (l.fn.names)) k)
