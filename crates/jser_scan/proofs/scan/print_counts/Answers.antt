use Rattle.std.proofs.Common.{sym, ◌∙◌}
use Rattle.jser_scan.specs.Lines.{counted_words}
use Rattle.jser_scan.proofs.ScanLemmas.{went}
use Rattle.jser_scan.proofs.scan.print_counts.Goals as goal

pub returns-else-has_failed-clause-printed : goal.returns-else-has_failed-clause-printed
returns-else-has_failed-clause-printed g c =
    went _ _ _ _ _ _ (λ k. counted_words c.args.things.now c.args.tally k) c.new-outbox.ensures c.write_tally.ensures c.flush.ensures.puts
    (sym c.has_failed.ensures ∙ c.if-has_failed.false) c.flush.ensures.empty
