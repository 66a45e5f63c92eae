use Rattle.std.proofs.Common.{sym, ◌∙◌}
use Rattle.jser_scan.specs.Paths.{unopened_words}
use Rattle.jser_scan.proofs.ScanLemmas.{went}
use Rattle.jser_scan.proofs.unopened.print_unopened.Goals as goal

pub returns-else-has_failed-clause-printed : goal.returns-else-has_failed-clause-printed
returns-else-has_failed-clause-printed g c =
    went _ _ _ _ _ _ (λ k. unopened_words c.args.path.now k) c.new-outbox.ensures c.write_unopened.ensures c.flush.ensures.puts
    (sym c.has_failed.ensures ∙ c.if-has_failed.false) c.flush.ensures.empty
