use Rattle.std.specs.Prelude.{◌++◌, ◌∷◌, codes}
use Rattle.jser_printer.proofs.SaysLemmas.{says_three}
use Rattle.jser_scan.specs.Answers.{answer_words}
use Rattle.jser_scan.proofs.json.write_error.Goals as goal

pub returns : goal.returns
returns g c =
    says_three _ _ _ _ _ _ _ _ (λ k. codes ",\"error\":\"" ++ k) (λ k. answer_words c.args.found.now k) (λ k. 0x22 ∷ k)
    c.write.ensures c.write_answer.ensures c.write-2.ensures
