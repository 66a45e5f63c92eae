use Rattle.std.specs.Prelude.{◌++◌, codes}
use Rattle.std.specs.Fmt.{decimal}
use Rattle.jser_printer.proofs.SaysLemmas.{says_five}
use Rattle.jser_scan.specs.Answers.{count_words}
use Rattle.jser_scan.proofs.scan.write_tally.Goals as goal

pub returns : goal.returns
returns g c =
    says_five _ _ _ _ _ _ _ _ _ _ _ _ (λ k. decimal c.args.tally.files ++ k) (λ k. count_words c.args.things.now c.args.tally.accepted k)
    (λ k. count_words (codes " accepted, ") c.args.tally.refused k) (λ k. count_words (codes " refused, ") c.args.tally.unread k) (λ k. codes " not read\n" ++ k)
    c.write_decimal.ensures c.write_count.ensures c.write_count-2.ensures c.write_count-3.ensures c.write.ensures
