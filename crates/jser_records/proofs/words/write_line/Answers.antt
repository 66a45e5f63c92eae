use Rattle.std.specs.Prelude.{◌∷◌}
use Rattle.jser_printer.proofs.SaysLemmas.{says_four}
use Rattle.jser_records.specs.Words.{label_words, words_of}
use Rattle.jser_records.proofs.words.write_line.Goals as goal

pub returns : goal.returns
returns g c =
    says_four _ _ _ _ _ _ _ _ _ _ (λ k. label_words c.args.number c.args.key.now c.args.signs.now k) (λ k. 0x09 ∷ k)
    (λ k. words_of c.args.answer.now k) (λ k. 0x0A ∷ k)
    c.write_label.ensures c.write.ensures c.write_words.ensures c.write-2.ensures
