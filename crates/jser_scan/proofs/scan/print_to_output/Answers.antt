use Rattle.std.proofs.Common.{sym, ◌∙◌}
use Rattle.jser_scan.specs.Lines.{says_found}
use Rattle.jser_scan.proofs.ScanLemmas.{went}
use Rattle.jser_scan.proofs.scan.print_to_output.Goals as goal

pub returns-else-has_failed-clause-printed : goal.returns-else-has_failed-clause-printed
returns-else-has_failed-clause-printed g c =
    went _ _ _ _ _ _ (λ k. says_found c.args.how c.args.path.now c.args.found.now k) c.new-outbox.ensures c.write_found.ensures c.flush.ensures.puts
    (sym c.has_failed.ensures ∙ c.if-has_failed.false) c.flush.ensures.empty
