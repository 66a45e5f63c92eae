use Rattle.std.specs.Prelude.{◌++◌, codes}
use Rattle.jser_printer.proofs.SaysLemmas.{says_three}
use Rattle.jser_scan.specs.Answers.{count_words}
use Rattle.jser_scan.proofs.answer.write_place.Goals as goal

pub returns : goal.returns
returns g c =
    says_three _ _ _ _ _ _ _ _ (λ k. count_words (codes "no at ") c.args.from k) (λ k. count_words (codes " to ") c.args.to k) (λ k. codes ": " ++ k)
    c.write_count.ensures c.write_count-2.ensures c.write.ensures
