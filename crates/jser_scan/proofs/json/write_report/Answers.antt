use Rattle.std.specs.Prelude.{codes}
use Rattle.jser_printer.proofs.SaysLemmas.{says_three}
use Rattle.jser_scan.specs.Answers.{count_words}
use Rattle.jser_scan.specs.Json.{more_report_words}
use Rattle.jser_scan.proofs.json.write_report.Goals as goal

pub returns : goal.returns
returns g c =
    says_three _ _ _ _ _ _ _ _ (λ k. count_words (codes ",\"answer\":\"yes\",\"bytes\":") c.args.totals.bytes k) (λ k. count_words (codes ",\"contents\":") c.args.totals.contents k)
    (λ k. more_report_words c.args.totals k) c.write_count.ensures c.write_count-2.ensures c.write_more_report.ensures
