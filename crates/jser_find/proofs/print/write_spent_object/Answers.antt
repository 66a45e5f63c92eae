use Rattle.std.proofs.Common.{ap, sym}
use Rattle.std.specs.Prelude.{◌++◌, codes}
use Rattle.jser_printer.proofs.SaysLemmas.{says_five, says_same}
use Rattle.jser_shown.specs.Words.{quoted}
use Rattle.jser_scan.specs.Answers.{count_words}
use Rattle.jser_find.proofs.print.write_spent_object.Goals as goal

pub returns : goal.returns
returns g c =
    says_five _ _ _ _ _ _ _ _ _ _ _ _ (λ k. codes "{\"path\":" ++ k) (λ k. quoted c.args.path.now.units.items k)
    (λ k. count_words (codes ",\"searched\":") c.args.place k) (λ k. count_words (codes ",\"of\":") c.args.all k) (λ k. codes "}\n" ++ k) c.write.ensures
    (says_same _ _ _ _ (λ k. quoted c.as_slice.result.now k) (λ k. quoted c.args.path.now.units.items k) (λ k. ap (λ u. quoted u k) (sym c.as_slice.ensures.value)) c.write_quoted.ensures)
    c.write_count.ensures c.write_count-2.ensures c.write-2.ensures
