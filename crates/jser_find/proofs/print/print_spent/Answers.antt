use Rattle.std.proofs.Common.{sym, ◌∙◌}
use Rattle.jser_scan.proofs.ScanLemmas.{went}
use Rattle.jser_find.specs.Lines.{spent_words}
use Rattle.jser_find.proofs.print.print_spent.Goals as goal

pub returns-else-has_failed-clause-printed : goal.returns-else-has_failed-clause-printed
returns-else-has_failed-clause-printed g c =
    went _ _ _ _ _ _ (λ k. spent_words c.args.json c.args.path.now c.args.place c.args.all k) c.new-outbox.ensures c.write_spent.ensures c.flush.ensures.puts
    (sym c.has_failed.ensures ∙ c.if-has_failed.false) c.flush.ensures.empty
