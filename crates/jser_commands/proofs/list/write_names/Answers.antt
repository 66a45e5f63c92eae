use Rattle.std.proofs.Common.{sym, ◌∙◌}
use Rattle.jser_commands.specs.Counts.{lines_before}
use Rattle.jser_commands.specs.Lines.{words_on}
use Rattle.jser_commands.proofs.ListLemmas.{lines_are, text_went_out, text_failed, text_cut}
use Rattle.jser_commands.proofs.list.write_names.Goals as goal

pub returns-clause-written : goal.returns-clause-written
returns-clause-written g c =
    text_went_out _ _ _ _ _ _ _ _ (lines_are (words_on c.args.filter.now) c.args.names.now) c.new-outbox.ensures c.write_lines.ensures
    c.flush.ensures.puts (sym c.has_failed.ensures ∙ c.if-has_failed.false) c.flush.ensures.empty

pub returns-then-has_failed-clause-cut : goal.returns-then-has_failed-clause-cut
returns-then-has_failed-clause-cut g c = (
  text_failed _ _ _ _ _ _ _ c.new-outbox.ensures c.write_lines.ensures c.flush.ensures.puts (sym c.has_failed.ensures ∙ c.if-has_failed.true),
  text_cut _ _ _ _ _ _ _ _ (lines_are (words_on c.args.filter.now) c.args.names.now) c.new-outbox.ensures c.write_lines.ensures c.flush.ensures.puts,
)
