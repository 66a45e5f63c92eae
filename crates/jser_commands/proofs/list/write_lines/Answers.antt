use Rattle.std.proofs.Common.{arith}
use Rattle.jser_printer.proofs.SaysLemmas.{says_none}
use Rattle.jser_shown.specs.Counting.{name_tally}
use Rattle.jser_commands.specs.Lines.{marked_words}
use Rattle.jser_commands.proofs.ListLemmas.{count_at, count_is_there, lines_on, lines_ended}
use Rattle.jser_commands.proofs.list.write_lines.Goals as goal

pub lines-init : goal.lines-init
lines-init g c = says_none _ _ _

pub unreachable-requires : goal.unreachable-requires
unreachable-requires g c =
    count_is_there c.args.names.now c.lines.number (omega (arith, c.lines-test.true, c.len-number-end.ensures)) c.in-None.ensures

pub lines-preserved : goal.lines-preserved
lines-preserved g c =
    lines_on _ _ _ _ _ _ (marked_words c.args.mark.now c.args.filter.now) c.args.names.now c.lines.number (name_tally c.in-Some.count.name.now c.in-Some.count.times) _
    (count_at _ c.in-Some.count c.in-Some.ensures) c.lines.invariant c.write_line.ensures

pub returns : goal.returns
returns g c =
    lines_ended _ _ _ _ (marked_words c.args.mark.now c.args.filter.now) c.args.names.now c.lines.number _ (omega (arith, c.lines-test.false, c.len-number-end.ensures))
    c.lines.invariant
