use Rattle.std.specs.Prelude.{codes}
use Rattle.jser_printer.proofs.SaysLemmas.{says_three}
use Rattle.jser_scan.specs.Answers.{count_words}
use Rattle.jser_scan.proofs.json.write_more_report.Goals as goal

pub returns : goal.returns
returns g c =
    says_three _ _ _ _ _ _ _ _ (λ k. count_words (codes ",\"refs\":") c.args.totals.refs k) (λ k. count_words (codes ",\"depth\":") c.args.totals.depth k)
    (λ k. count_words (codes ",\"handles\":") c.args.totals.handles k) c.write_count.ensures c.write_count-2.ensures c.write_count-3.ensures
