use Rattle.std.proofs.Common.{subst}
use Rattle.std.specs.Io.KnownBytes.{Appends}
use Rattle.jser_commands.specs.Lines.{KeptOrCut}
use Rattle.jser_commands.proofs.HiddenLemmas.{both_lines}
use Rattle.jser_commands.proofs.list_anywhere.print_whole.Goals as goal

pub returns-in-Ok-clause-printed : goal.returns-in-Ok-clause-printed
returns-in-Ok-clause-printed g c = λ zero.
    subst (Appends (g.W.Sink.gone_out c.args.output.now) (g.W.Sink.gone_out c.print_both.new.output))
    (both_lines c.args.filter.now c.args.whole.now.names c.in-Ok.hidden c.args.whole.now.bytes.items c.deref.result.now c.deref.ensures.value c.in-Ok.ensures)
    (c.print_both.ensures.printed zero)

pub returns-in-Ok-clause-failed : goal.returns-in-Ok-clause-failed
returns-in-Ok-clause-failed g c = λ three.
    subst (KeptOrCut (g.W.Sink.has_failed c.print_both.new.output) (g.W.Sink.gone_out c.args.output.now) (g.W.Sink.gone_out c.print_both.new.output))
    (both_lines c.args.filter.now c.args.whole.now.names c.in-Ok.hidden c.args.whole.now.bytes.items c.deref.result.now c.deref.ensures.value c.in-Ok.ensures)
    (c.print_both.ensures.failed three)
