use Rattle.std.specs.Prelude.{◌++◌, ◌∷◌, codes}
use Rattle.jser_printer.proofs.SaysLemmas.{says_five}
use Rattle.jser_scan.specs.Answers.{answer_words}
use Rattle.jser_scan.specs.Paths.{path_words}
use Rattle.jser_find.specs.Lines.{place_words}
use Rattle.jser_find.proofs.print.write_line.Goals as goal

pub returns : goal.returns
returns g c =
    says_five _ _ _ _ _ _ _ _ _ _ _ _ (λ k. path_words c.args.path.now k) (λ k. place_words c.args.place k) (λ k. codes ": " ++ k)
    (λ k. answer_words c.args.found.now k) (λ k. 0x0A ∷ k) c.write_path.ensures c.write_place.ensures c.write.ensures c.write_answer.ensures c.write-2.ensures
