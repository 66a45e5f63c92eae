use Rattle.std.specs.Prelude.{codes}
use Rattle.jser_printer.proofs.SaysLemmas.{says_four}
use Rattle.jser_scan.specs.Answers.{count_words}
use Rattle.jser_scan.proofs.answer.write_counts.Goals as goal

pub returns : goal.returns
returns g c =
    says_four _ _ _ _ _ _ _ _ _ _ (λ k. count_words (codes "yes ") c.args.totals.bytes k) (λ k. count_words (codes " bytes, ") c.args.totals.contents k)
    (λ k. count_words (codes " contents, ") c.args.totals.refs k) (λ k. count_words (codes " refs, depth ") c.args.totals.depth k)
    c.write_count.ensures c.write_count-2.ensures c.write_count-3.ensures c.write_count-4.ensures
