use Rattle.std.specs.Prelude.{◌++◌, ◌∷◌, codes}
use Rattle.jser_printer.proofs.SaysLemmas.{says_three}
use Rattle.jser_records.specs.Words.{words_of}
use Rattle.jser_records.proofs.words.write_error.Goals as goal

pub returns : goal.returns
returns g c =
    says_three _ _ _ _ _ _ _ _ (λ k. codes ",\"error\":\"" ++ k) (λ k. words_of c.args.answer.now k) (λ k. 0x22 ∷ k)
    c.write.ensures c.write_words.ensures c.write-2.ensures
