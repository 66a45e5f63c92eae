use Rattle.std.proofs.Common.{sym, ◌∙◌, inr, codes}
use Rattle.jser_printer.proofs.SaysLemmas.{says_both}
use Rattle.jser_commands.specs.Counts.{lines_before}
use Rattle.jser_commands.specs.Lines.{marked_words, words_on}
use Rattle.jser_commands.proofs.ListLemmas.{both_are, text_went_out, text_failed, text_cut}
use Rattle.jser_commands.proofs.list_anywhere.print_both.Goals as goal

pub returns-clause-printed : goal.returns-clause-printed
returns-clause-printed g c = λ done.
    text_went_out _ _ _ _ _ _ _ _
    (both_are (words_on c.args.filter.now) (marked_words (codes "hidden ") c.args.filter.now) c.args.checked.now c.args.hidden.now)
    c.new-outbox.ensures
    (says_both _ _ _ _ _ _ (λ k. lines_before (words_on c.args.filter.now) c.args.checked.now k)
    (λ k. lines_before (marked_words (codes "hidden ") c.args.filter.now) c.args.hidden.now k) c.write_lines.ensures c.write_lines-2.ensures)
    c.flush.ensures.puts (sym c.has_failed.ensures ∙ c.if-has_failed.false) c.flush.ensures.empty

pub returns-then-has_failed-clause-failed : goal.returns-then-has_failed-clause-failed
returns-then-has_failed-clause-failed g c = λ three.
    let said = says_both _ _ _ _ _ _ (λ k. lines_before (words_on c.args.filter.now) c.args.checked.now k)
    (λ k. lines_before (marked_words (codes "hidden ") c.args.filter.now) c.args.hidden.now k) c.write_lines.ensures c.write_lines-2.ensures in
    inr (
      text_failed _ _ _ _ _ _ _ c.new-outbox.ensures said c.flush.ensures.puts (sym c.has_failed.ensures ∙ c.if-has_failed.true),
      text_cut _ _ _ _ _ _ _ _
          (both_are (words_on c.args.filter.now) (marked_words (codes "hidden ") c.args.filter.now) c.args.checked.now c.args.hidden.now)
          c.new-outbox.ensures said c.flush.ensures.puts,
    )
