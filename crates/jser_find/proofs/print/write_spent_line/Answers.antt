use Rattle.std.specs.Prelude.{◌++◌, codes}
use Rattle.jser_printer.proofs.SaysLemmas.{says_four}
use Rattle.jser_scan.specs.Answers.{count_words}
use Rattle.jser_scan.specs.Paths.{path_words}
use Rattle.jser_find.proofs.print.write_spent_line.Goals as goal

pub returns : goal.returns
returns g c =
    says_four _ _ _ _ _ _ _ _ _ _ (λ k. path_words c.args.path.now k) (λ k. count_words (codes ": searched to ") c.args.place k)
    (λ k. count_words (codes " of ") c.args.all k) (λ k. codes " bytes\n" ++ k) c.write_path.ensures c.write_count.ensures c.write_count-2.ensures c.write.ensures
